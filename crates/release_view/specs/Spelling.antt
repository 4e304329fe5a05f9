-- What the tables of a view keep of fields.
use Rattle.std.specs.Prelude.{◌≡◌, List, All, Contains}
use Rattle.fields.specs.Table.{AreLawful}
use Rattle.fields.specs.Fits.{AreOfSameFields}
use Rattle.release_view.specs.declared.known.KnownVersion.{KnownVersion}

abbrev pub HaveLawfulTables : List KnownVersion → Type 0
HaveLawfulTables versions = All (λ v. AreLawful v.table.rows) versions

-- the versions of one resource spell the same fields
abbrev pub SpellAlike : List KnownVersion → Type 0
SpellAlike versions =
    (v w : KnownVersion) → Contains versions v → Contains versions w →
    v.table.group ≡ w.table.group → v.table.resource ≡ w.table.resource →
    AreOfSameFields v.table.rows w.table.rows
