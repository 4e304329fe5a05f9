-- What an object is converted to, and why it can't be. The first cause that holds decides: the text, the version that
-- the object is in, its fields in order of id, its metadata, the version that it is to go to.
use Rattle.std.specs.Prelude.{◌≡◌, ◌⊎◌, ℕ, List, [], ◌∷◌, Option, Some, None, option_and_then}
use Rattle.conversion.specs.Reading.{Reads, IsFirstFault}
use Rattle.conversion.specs.Trees.{Names}
use Rattle.conversion.specs.Whole.{api_version, kind, metadata, IsTextOf, text_at, IsWhole}
use Rattle.conversion.specs.declared.fault.ReadCause.{ReadCause}
use Rattle.conversion.specs.declared.fault.ReadCause.TheVariants.{NotInt}
use Rattle.conversion.specs.declared.mode.Mode.TheVariants.{Stored}
use Rattle.fields.specs.declared.map.FieldPair.{FieldPair}
use Rattle.fields.specs.declared.table.FieldRow.{FieldRow}
use Rattle.fields.specs.declared.table.VersionTable.{VersionTable}
use Rattle.release_view.specs.Views.{kind_table_in, version_table_in}
use Rattle.release_view.specs.declared.known.KnownVersion.{KnownVersion}
use Rattle.serde_json.specs.Data.{Data}
use Rattle.serde_json.specs.Find.{get}
use Rattle.object_convert.specs.Objects.{HasWholeMetadata}
use Rattle.object_convert.specs.declared.fault.ConvertFault.{ConvertFault}
use Rattle.object_convert.specs.declared.fault.ConvertFault.TheVariants.{NotAnObject, UnknownVersion, Bad, UnknownTarget, Memory}

-- the table of the version that the object names by `apiVersion` and `kind`
abbrev pub table_of : List KnownVersion → Data → Option VersionTable
table_of versions tree =
    option_and_then
    (λ version. option_and_then (kind_table_in versions version) (text_at kind tree))
    (text_at api_version tree)

-- the object is in the version of the table, with these fields and nothing in its metadata that can't be copied
pub record IsRead (versions : List KnownVersion) (tree : Data)
    (table : VersionTable) (held : List FieldPair) : Type 0 where
  pub of_table : table_of versions tree ≡ Some table
  pub reads : Reads Stored table.rows tree held
  pub whole : HasWholeMetadata tree

-- the object in the version `to` of its resource is this one: it shows the fields that are read of the object, with its
-- metadata
pub record IsConverted (versions : List KnownVersion) (tree : Data)
    (to : List ℕ) (shown : Data) : Type 0 where
  pub table : VersionTable
  pub held : List FieldPair
  pub taken : IsRead versions tree table held
  pub target : VersionTable
  pub found : version_table_in versions to table.group table.resource ≡ Some target
  pub written : IsWhole target to held (get metadata tree) shown

-- the text is an object that is converted to this one
abbrev pub Converts : List KnownVersion → List ℕ → List ℕ → Data → Type 0
Converts versions text to shown =
    (tree : Data) × IsTextOf text tree × IsConverted versions tree to shown

-- ---- refusals

-- what can't be read or copied of an object: the first faulty field; or where there is none, the metadata with a number
-- that isn't whole
abbrev pub IsUnreadable : List FieldRow → Data → Names → ReadCause → Type 0
IsUnreadable rows tree path cause = IsFirstFault Stored rows tree path cause
    ⊎ (((held : List FieldPair) × Reads Stored rows tree held) × ¬ HasWholeMetadata tree
    × (path ≡ metadata ∷ []) × (cause ≡ NotInt))

-- why an object isn't converted; want of memory is free
abbrev pub IsTreeFault : List KnownVersion → Data → List ℕ → ConvertFault → Type 0
IsTreeFault versions tree to NotAnObject = ⊥
IsTreeFault versions tree to UnknownVersion = table_of versions tree ≡ None
IsTreeFault versions tree to (Bad path cause) = (table : VersionTable)
    × (table_of versions tree ≡ Some table) × IsUnreadable table.rows tree path cause
IsTreeFault versions tree to UnknownTarget = (table : VersionTable) × (held : List FieldPair)
    × IsRead versions tree table held
    × (version_table_in versions to table.group table.resource ≡ None)
IsTreeFault versions tree to Memory = Unit {0}

-- why a text isn't converted
abbrev pub IsConvertFault : List KnownVersion → List ℕ → List ℕ → ConvertFault → Type 0
IsConvertFault versions text to NotAnObject = (tree : Data) → ¬ IsTextOf text tree
IsConvertFault versions text to Memory = Unit {0}
IsConvertFault versions text to fault =
    (tree : Data) × IsTextOf text tree × IsTreeFault versions tree to fault
