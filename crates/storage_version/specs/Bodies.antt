-- What is stored of an object, and what a stored body is read as by a release.
use Rattle.std.specs.Prelude.{◌≡◌, ◌⊎◌, ℕ, List, Some, None, codes}
use Rattle.conversion.specs.Reading.{Reads}
use Rattle.conversion.specs.Whole.{api_version, kind, IsTextOf, text_at, IsWhole}
use Rattle.conversion.specs.declared.mode.Mode.TheVariants.{Stored}
use Rattle.fields.specs.declared.map.FieldPair.{FieldPair}
use Rattle.fields.specs.declared.table.VersionTable.{VersionTable}
use Rattle.lifecycle.specs.Names.{group_version}
use Rattle.release_view.specs.Views.{version_table_in}
use Rattle.release_view.specs.declared.known.KnownVersion.{KnownVersion}
use Rattle.serde_json.specs.Data.{Data}
use Rattle.serde_json.specs.Written.{compact_text}
use Rattle.storage_version.specs.declared.fault.DecodeFault.{DecodeFault}
use Rattle.storage_version.specs.declared.fault.DecodeFault.TheVariants.{Undecodable, Memory}

-- ---- what is stored

-- the bytes are the compact text of the object of the table's version and kind that shows the fields. It has no
-- metadata, and no line feed is behind it
pub record IsBodyOf (table : VersionTable) (held : List FieldPair) (body : List ℕ) : Type 0 where
  pub tree : Data
  pub whole : IsWhole table (group_version table.group table.version) held None tree
  pub compact : body ≡ compact_text tree
  pub text : IsTextOf body tree

-- ---- what is read

-- the object names the table's version, which is one of the resource that the release reads, and its kind
pub record IsNamed (versions : List KnownVersion) (group resource : List ℕ) (tree : Data)
    (table : VersionTable) : Type 0 where
  pub version : List ℕ
  pub versioned : text_at api_version tree ≡ Some version
  pub found : version_table_in versions version group resource ≡ Some table
  pub of_kind : text_at kind tree ≡ Some table.kind

-- the object is read, as a stored one of the resource, as these fields
pub record IsObjectRead (versions : List KnownVersion) (group resource : List ℕ) (tree : Data)
    (held : List FieldPair) : Type 0 where
  pub table : VersionTable
  pub named : IsNamed versions group resource tree table
  pub reads : Reads Stored table.rows tree held

-- the body is the text of an object that is read as these fields
pub record IsBodyRead (versions : List KnownVersion) (group resource body : List ℕ)
    (held : List FieldPair) : Type 0 where
  pub tree : Data
  pub text : IsTextOf body tree
  pub object : IsObjectRead versions group resource tree held

abbrev pub IsReadable : List KnownVersion → List ℕ → List ℕ → List ℕ → Type 0
IsReadable versions group resource body =
    (held : List FieldPair) × IsBodyRead versions group resource body held

-- ---- what isn't

-- the text of `apiVersion`, or a question mark where there is none
abbrev pub IsVersionTold : Data → List ℕ → Type 0
IsVersionTold tree told = (text_at api_version tree ≡ Some told)
    ⊎ ((text_at api_version tree ≡ None) × (told ≡ codes "?"))

-- of a body: the version that its object tells, or a question mark where it is no text of an object
abbrev pub TellsVersion : List ℕ → List ℕ → Type 0
TellsVersion body told = ((tree : Data) × IsTextOf body tree × IsVersionTold tree told)
    ⊎ (((tree : Data) → ¬ IsTextOf body tree) × (told ≡ codes "?"))

-- why an object has no fields; want of memory is free
abbrev pub IsObjectFault : List KnownVersion → List ℕ → List ℕ → Data → DecodeFault → Type 0
IsObjectFault versions group resource tree (Undecodable version) =
    ((held : List FieldPair) → ¬ IsObjectRead versions group resource tree held)
    × IsVersionTold tree version
IsObjectFault versions group resource tree Memory = Unit {0}

-- why a body has no fields
abbrev pub IsDecodeFault : List KnownVersion → List ℕ → List ℕ → List ℕ → DecodeFault → Type 0
IsDecodeFault versions group resource body (Undecodable version) =
    (¬ IsReadable versions group resource body) × TellsVersion body version
IsDecodeFault versions group resource body Memory = Unit {0}

-- the fault is that of this version, or want of memory
abbrev pub IsFaultOf : List ℕ → DecodeFault → Type 0
IsFaultOf told (Undecodable version) = version ≡ told
IsFaultOf told Memory = Unit {0}
