-- Entries with the keys that name their versions.
use Rattle.std.specs.Prelude.{◌≡◌, List, map, string_bytes}
use Rattle.std.specs.List.{AllByRecursion}
use Rattle.lifecycle.specs.Entry.{subject}
use Rattle.lifecycle.specs.declared.entry.ApiEntry.{ApiEntry}
use Rattle.runtime_config.specs.Keys.{version_key, resource_key}
use Rattle.runtime_config.specs.declared.keys.Row.{Row}

-- the keys are those of the entry's version
pub record HasItsKeys (row : Row) : Type 0 where
  pub version : string_bytes row.version ≡ version_key (subject row.entry.now)
  pub resource : string_bytes row.resource ≡ resource_key (subject row.entry.now)

abbrev pub entries_of : List Row → List ApiEntry
entries_of rows = map (λ row. row.entry.now) rows

-- the rows of these entries, each with its keys
pub record AreRowsOf (entries : List ApiEntry) (rows : List Row) : Type 0 where
  pub whole : entries_of rows ≡ entries
  pub keys : AllByRecursion HasItsKeys rows
