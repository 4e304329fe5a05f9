-- Versions of resources as they are served, with their tables.
use Rattle.std.specs.Prelude.{◌≡◌}
use Rattle.fields.specs.Table.{AreLawful}
use Rattle.fields.specs.declared.table.VersionTable.{VersionTable}
use Rattle.release_view.specs.Known.{table_name}
use Rattle.release_view.specs.Served.{shown_name}
use Rattle.release_view.specs.declared.served.ServedVersion.{ServedVersion}

-- the table is that of the version as it is served: both have one name and one kind, and the table
-- is lawful
pub record IsTableOf (served : ServedVersion) (table : VersionTable) : Type 0 where
  pub named : table_name table ≡ shown_name served
  pub of_kind : table.kind ≡ served.kind
  pub lawful : AreLawful table.rows
