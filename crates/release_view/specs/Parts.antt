-- Parts of the making of a view.
use Rattle.std.specs.Prelude.{◌≡◌, ◌↔◌, ℕ, List, true, false, Any, Contains, Some, None}
use Rattle.std.specs.declared.option.Option.{Option}
use Rattle.fields.specs.declared.table.VersionTable.{VersionTable}
use Rattle.lifecycle.specs.Entry.{GroupVersionResource, subject}
use Rattle.lifecycle.specs.Tables.{decodable}
use Rattle.lifecycle.specs.declared.entry.ApiEntry.{ApiEntry}
use Rattle.row_index.specs.Laws.{AreRowsOf}
use Rattle.row_index.specs.Source.{RowSource}
use Rattle.release_view.specs.Known.{Tables, name_of, table_name, IsKnown, AreInPlace, Has}
use Rattle.release_view.specs.declared.known.KnownVersion.{KnownVersion}

-- the table of the version with this name
pub record IsTableOf (source : RowSource) (name : GroupVersionResource)
    (kind : List ℕ) (t : VersionTable) : Type 0 where
  pub of_group : t.group ≡ name.group
  pub of_version : t.version ≡ name.version
  pub of_resource : t.resource ≡ name.resource
  pub of_kind : t.kind ≡ kind
  pub rows : AreRowsOf source (table_name t) t.rows

-- the known version with this name, or none where objects in it aren't read
abbrev pub IsVersionOf :
    Tables → List GroupVersionResource → GroupVersionResource → Option KnownVersion → Type 0
IsVersionOf tables on_names name (Some v) = IsKnown tables on_names v × (name_of v ≡ name)
IsVersionOf tables on_names name None = decodable tables.apis name ≡ false

-- some entry speaks of the version
abbrev pub Speaks : List ApiEntry → GroupVersionResource → Type 0
Speaks entries name = Any (λ x. subject x ≡ name) entries

-- the known versions of which the entries speak, in order
pub record IsGathered (tables : Tables) (on_names : List GroupVersionResource)
    (entries : List ApiEntry) (versions : List KnownVersion) : Type 0 where
  pub order : AreInPlace versions
  pub exact : (v : KnownVersion) →
      Contains versions v ↔ (IsKnown tables on_names v × Speaks entries (name_of v))
  pub each : (name : GroupVersionResource) →
      Speaks entries name → decodable tables.apis name ≡ true → Has versions name
