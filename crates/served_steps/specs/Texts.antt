-- Texts of a view that are in UTF-8: those of which a record of an object may be made.
use Rattle.std.specs.Prelude.{◌≡◌, List, Some, All, IfSome}
use Rattle.std.specs.Str.{IsUtf8}
use Rattle.fields.specs.declared.table.FieldRow.{FieldRow}
use Rattle.fields.specs.declared.table.VersionTable.{VersionTable}
use Rattle.fields.specs.declared.value.FieldValue.{FieldValue}
use Rattle.fields.specs.declared.value.FieldValue.TheVariants.{Bool, Int, Text, List as Texts}
use Rattle.release_view.specs.Served.{served_of, shown_name}
use Rattle.release_view.specs.Views.{table_in}
use Rattle.release_view.specs.declared.known.KnownVersion.{KnownVersion}
use Rattle.release_view.specs.declared.served.ServedVersion.{ServedVersion}
use Rattle.storage_version.specs.Storage.{storage_table_in}

-- a default that is a text is UTF-8. A list is none in a lawful row
abbrev pub IsTextDefault : FieldValue → Type 0
IsTextDefault (Bool b) = Unit {0}
IsTextDefault (Int z) = Unit {0}
IsTextDefault (Text t) = IsUtf8 t
IsTextDefault (Texts ts) = Unit {0}

abbrev pub HaveTextDefaults : List FieldRow → Type 0
HaveTextDefaults rows = All (λ row. IfSome row.default IsTextDefault) rows

-- what an object of the table's version names itself by
pub record IsTextTable (table : VersionTable) : Type 0 where
  pub group : IsUtf8 table.group
  pub version : IsUtf8 table.version
  pub kind : IsUtf8 table.kind

-- the texts of the version's defaults, and of the version in which its objects are stored
pub record HasTexts (back versions : List KnownVersion) (s : ServedVersion) : Type 0 where
  pub defaults : (table : VersionTable) → table_in versions (shown_name s) ≡ Some table
      → HaveTextDefaults table.rows
  pub stored : (table : VersionTable)
      → storage_table_in back versions s.group s.resource ≡ Some table → IsTextTable table

-- those of each served version
abbrev pub ServedHaveTexts : List KnownVersion → List KnownVersion → Type 0
ServedHaveTexts back versions = All (HasTexts back versions) (served_of versions)
