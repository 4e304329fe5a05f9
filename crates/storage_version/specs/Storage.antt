-- The version in which objects of a resource are stored, by the versions of two releases: the one that is emulated, and
-- an earlier one to which one may go back.
use Rattle.std.specs.Prelude.{ℕ, List, Option, Some, None, option_map, option_and_then}
use Rattle.fields.specs.declared.table.VersionTable.{VersionTable}
use Rattle.lifecycle.specs.Entry.{GroupVersionResource}
use Rattle.release_view.specs.Known.{table_name}
use Rattle.release_view.specs.Views.{table_in, best_table_in}
use Rattle.release_view.specs.declared.known.KnownVersion.{KnownVersion}

abbrev pub or_else : Option VersionTable → Option VersionTable → Option VersionTable
or_else (Some table) other = Some table
or_else None other = other

-- the most stable version that is live at the earlier release; where the kind isn't live there, the most stable one
-- that is live at the later release
abbrev pub storage_version_of : List KnownVersion → List KnownVersion → List ℕ → List ℕ
    → Option GroupVersionResource
storage_version_of back versions group resource = option_map table_name
    (or_else (best_table_in back group resource) (best_table_in versions group resource))

-- that version's table at the later release
abbrev pub storage_table_in : List KnownVersion → List KnownVersion → List ℕ → List ℕ
    → Option VersionTable
storage_table_in back versions group resource =
    option_and_then (table_in versions) (storage_version_of back versions group resource)
