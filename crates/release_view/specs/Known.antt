-- What the tables of a release say of a version of a resource, as a view holds it.
use Rattle.std.specs.Prelude.{◌≡◌, ◌↔◌, ℕ, List, Bool, true, IsTrue, Any, Contains, Option, Some, None, option_map, option_and_then}
use Rattle.std.specs.declared.cmp.Ordering.{Ordering}
use Rattle.std.specs.Ordering.{nat_cmp, on, then_cmp}
use Rattle.std.specs.Cmp.Lexicographic.{slice_cmp}
use Rattle.std.specs.List.Sorted.{IsStrictlySortedBy}
use Rattle.fields.specs.declared.table.VersionTable.{VersionTable}
use Rattle.gate_flags.specs.Values.{Gates}
use Rattle.lifecycle.specs.Entry.{GroupVersionResource}
use Rattle.lifecycle.specs.Stability.{by_stability}
use Rattle.lifecycle.specs.Tables.{Deprecation, cutoff, is_introduction, first_change, live, decodable, warning}
use Rattle.lifecycle.specs.Version.{IsWord, word_text}
use Rattle.lifecycle.specs.declared.entry.ApiEntry.{ApiEntry}
use Rattle.lifecycle.specs.declared.entry.ApiChange.{ApiChange}
use Rattle.lifecycle.specs.declared.entry.ApiChange.TheVariants.{Introduced}
use Rattle.row_index.specs.Laws.{AreRowsOf, source_at}
use Rattle.row_index.specs.Source.{RowSource}
use Rattle.schemas.specs.Dated.{Dated}
use Rattle.release_view.specs.declared.known.KnownVersion.{KnownVersion}
use Rattle.release_view.specs.declared.known.Planned.{Planned}

abbrev pub name_of : KnownVersion → GroupVersionResource
name_of v = record { group = v.table.group; version = v.table.version; resource = v.table.resource }

abbrev pub table_name : VersionTable → GroupVersionResource
table_name t = record { group = t.group; version = t.version; resource = t.resource }

-- what an introduction says of the resource: its kind, its singular and whether it is namespaced
pub record Naming : Type 0 where
  pub kind : List ℕ
  pub singular : List ℕ
  pub namespaced : Bool

abbrev pub naming_in : KnownVersion → Naming
naming_in v = record { kind = v.table.kind; singular = v.singular; namespaced = v.namespaced }

abbrev pub naming_of : ApiChange → Option Naming
naming_of (Introduced kind singular namespaced enabled) =
    Some (record { kind = kind; singular = singular; namespaced = namespaced })
naming_of _ = None

-- the naming of a version, by its first introduction in the tables
abbrev pub naming : List ApiEntry → GroupVersionResource → Option Naming
naming tables name =
    option_and_then (λ x. naming_of x.change) (first_change is_introduction tables name)

-- what versions are known by: changes of versions, and what rows are made of
pub record Tables : Type 0 where
  pub apis : List ApiEntry
  pub source : RowSource

-- those of a release, with the values of its gates
abbrev pub tables_at : Dated → ℕ → Gates → Tables
tables_at h e gates = record { apis = cutoff h.apis e; source = source_at h e gates }

abbrev pub deprecation : Planned → Deprecation
deprecation p = record { since = p.since; removal = p.removal; replacement = p.replacement }

-- the version is read at the release, and this is what its tables and the served names say of it
pub record IsKnown (tables : Tables) (on_names : List GroupVersionResource)
    (v : KnownVersion) : Type 0 where
  pub decodes : decodable tables.apis (name_of v) ≡ true
  pub named_as : naming tables.apis (name_of v) ≡ Some (naming_in v)
  pub lawful : IsWord v.word
  pub spelled : v.table.version ≡ word_text v.word
  pub is_live : v.live ≡ live tables.apis (name_of v)
  pub is_served : IsTrue v.served ↔ Contains on_names (name_of v)
  pub warned : option_map deprecation v.warning ≡ warning tables.apis (name_of v)
  pub rows : AreRowsOf tables.source (name_of v) v.table.rows

-- by group in order of bytes, then the most stable first, then by resource in order of bytes
abbrev pub by_place : KnownVersion → KnownVersion → Ordering
by_place =
    then_cmp
    (then_cmp (on (λ v. v.table.group) (slice_cmp nat_cmp)) (on (λ v. v.word) by_stability))
    (on (λ v. v.table.resource) (slice_cmp nat_cmp))

abbrev pub AreInPlace : List KnownVersion → Type 0
AreInPlace versions = IsStrictlySortedBy by_place versions

-- some version in the list has this name
abbrev pub Has : List KnownVersion → GroupVersionResource → Type 0
Has versions name = Any (λ v. name_of v ≡ name) versions

-- the versions that the tables have, each once, in order
pub record AreKnown (tables : Tables) (on_names : List GroupVersionResource)
    (versions : List KnownVersion) : Type 0 where
  pub order : AreInPlace versions
  pub exact : (v : KnownVersion) → Contains versions v ↔ IsKnown tables on_names v
  pub each_decodable : (name : GroupVersionResource) →
      decodable tables.apis name ≡ true → Has versions name
  pub each_live : (name : GroupVersionResource) → live tables.apis name ≡ true → Has versions name
