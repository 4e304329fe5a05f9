-- A view of a release as contracts see it, and what is looked up in it.
use Rattle.std.specs.Prelude.{◌≡◌, ◌≢◌, ℕ, ◌≤◌, ◌&&◌, List, [], Bool, true, find, Contains, All, Option, option_map, option_and_then}
use Rattle.std.specs.List.{list_any}
use Rattle.std.specs.Str.{bytes_eq}
use Rattle.std.specs.declared.cmp.Ordering.TheVariants.{Greater}
use Rattle.fields.specs.declared.table.VersionTable.{VersionTable}
use Rattle.flag_text.specs.Pieces.{pieces}
use Rattle.gate_flags.specs.Values.{Gates, AreGateValues}
use Rattle.gate_spec.specs.Gates.{cutoff as gate_cutoff}
use Rattle.lifecycle.specs.Entry.{GroupVersionResource}
use Rattle.lifecycle.specs.Names.{group_version}
use Rattle.lifecycle.specs.Stability.{by_stability}
use Rattle.lifecycle.specs.Tables.{Deprecation, cutoff, live}
use Rattle.lifecycle.specs.declared.entry.ApiEntry.{ApiEntry}
use Rattle.runtime_config.specs.Config.{AreServed}
use Rattle.schemas.specs.Dated.{Dated}
use Rattle.schemas.specs.Rules.{first_of, last_of}
use Rattle.release_view.specs.Gates.{AreGatesOf}
use Rattle.release_view.specs.Known.{tables_at, AreKnown, deprecation}
use Rattle.release_view.specs.Served.{served_of}
use Rattle.release_view.specs.declared.known.KnownVersion.{KnownVersion}
use Rattle.release_view.specs.declared.served.ServedVersion.{ServedVersion}

-- a release with the values of its gates, and the versions whose stored objects it reads
pub record Viewed : Type 0 where
  pub minor : ℕ
  pub gates : Gates
  pub versions : List KnownVersion

-- each of the names is that of a live version
abbrev pub AreLive : List ApiEntry → List GroupVersionResource → Type 0
AreLive tables names = (name : GroupVersionResource) → Contains names name → live tables name ≡ true

-- the release may be viewed with these gates and served versions: the history speaks of it, the gates are those of its
-- tables, and what is served is live
pub record IsViewable (history : Dated) (e : ℕ) (gates : Gates)
    (on_names : List GroupVersionResource) : Type 0 where
  pub from : first_of history ≤ e
  pub to : e ≤ last_of history
  pub valued : AreGatesOf (gate_cutoff history.gates e) gates
  pub lives : AreLive (cutoff history.apis e) on_names

-- the view of the release by this history, these gates and these served versions
pub record IsViewOf (history : Dated) (e : ℕ) (gates : Gates)
    (on_names : List GroupVersionResource) (view : Viewed) : Type 0 where
  pub of_minor : view.minor ≡ e
  pub of_gates : view.gates ≡ gates
  pub of_versions : AreKnown (tables_at history e gates) on_names view.versions
  pub viewable : IsViewable history e gates on_names

-- the view of the release by the history, with what these texts make of its gates and versions
pub record IsViewByTexts (history : Dated) (e : ℕ) (features config : List ℕ)
    (view : Viewed) : Type 0 where
  pub on : List GroupVersionResource
  pub served : AreServed (cutoff history.apis e) (pieces config) on
  pub valued : AreGateValues (gate_cutoff history.gates e) (pieces features) view.gates
  pub viewed : IsViewOf history e view.gates on view

-- the view of the release with its gates and its served versions as they are by default
abbrev pub IsDefaultView : Dated → ℕ → Viewed → Type 0
IsDefaultView history e view = IsViewByTexts history e [] [] view

-- ---- look-ups

abbrev pub has_name : GroupVersionResource → KnownVersion → Bool
has_name name v =
    bytes_eq v.table.group name.group
    && bytes_eq v.table.version name.version
    && bytes_eq v.table.resource name.resource

abbrev pub is_shown_as : GroupVersionResource → ServedVersion → Bool
is_shown_as name s =
    bytes_eq s.group name.group
    && bytes_eq s.version name.version
    && bytes_eq s.resource name.resource

abbrev pub version_in : List KnownVersion → GroupVersionResource → Option KnownVersion
version_in versions name = find (has_name name) versions

abbrev pub table_in : List KnownVersion → GroupVersionResource → Option VersionTable
table_in versions name = option_map (λ v. v.table) (version_in versions name)

abbrev pub warning_in : List KnownVersion → GroupVersionResource → Option Deprecation
warning_in versions name =
    option_and_then (λ v. option_map deprecation v.warning) (version_in versions name)

abbrev pub served_in : List KnownVersion → GroupVersionResource → Option ServedVersion
served_in versions name = find (is_shown_as name) (served_of versions)

-- the version has this `apiVersion` text
abbrev pub has_version_text : List ℕ → KnownVersion → Bool
has_version_text text v = bytes_eq (group_version v.table.group v.table.version) text

abbrev pub is_of_kind : List ℕ → List ℕ → KnownVersion → Bool
is_of_kind text kind v = has_version_text text v && bytes_eq v.table.kind kind

abbrev pub is_of_resource : List ℕ → List ℕ → List ℕ → KnownVersion → Bool
is_of_resource text group resource v =
    has_version_text text v && bytes_eq v.table.group group && bytes_eq v.table.resource resource

-- the table of the version that objects of this `apiVersion` and kind are in
abbrev pub kind_table_in : List KnownVersion → List ℕ → List ℕ → Option VersionTable
kind_table_in versions text kind = option_map (λ v. v.table) (find (is_of_kind text kind) versions)

-- the table of the resource's version with this `apiVersion` text
abbrev pub version_table_in : List KnownVersion → List ℕ → List ℕ → List ℕ → Option VersionTable
version_table_in versions text group resource =
    option_map (λ v. v.table) (find (is_of_resource text group resource) versions)

-- the table is of this kind, in a version with this `apiVersion` text
pub record IsOfKind (text kind : List ℕ) (t : VersionTable) : Type 0 where
  pub of_text : group_version t.group t.version ≡ text
  pub of_kind : t.kind ≡ kind

-- the table is of this resource, in a version with this `apiVersion` text
pub record IsOfResource (text group resource : List ℕ) (t : VersionTable) : Type 0 where
  pub of_text : group_version t.group t.version ≡ text
  pub of_group : t.group ≡ group
  pub of_resource : t.resource ≡ resource

-- a live version of the resource
abbrev pub is_live_of : List ℕ → List ℕ → KnownVersion → Bool
is_live_of group resource v =
    v.live && bytes_eq v.table.group group && bytes_eq v.table.resource resource

abbrev pub has_live : List KnownVersion → List ℕ → List ℕ → Bool
has_live versions group resource = list_any (is_live_of group resource) versions

-- the table of the resource's first live version
abbrev pub best_table_in : List KnownVersion → List ℕ → List ℕ → Option VersionTable
best_table_in versions group resource =
    option_map (λ v. v.table) (find (is_live_of group resource) versions)

-- of the resource's live versions none is more stable
pub record IsBest (versions : List KnownVersion) (group resource : List ℕ)
    (v : KnownVersion) : Type 0 where
  pub among : Contains versions v
  pub is_live : is_live_of group resource v ≡ true
  pub best : All (λ w. is_live_of group resource w ≡ true → by_stability v.word w.word ≢ Greater)
      versions

-- the table of the most stable live version of the resource
abbrev pub IsBestTable : List KnownVersion → List ℕ → List ℕ → VersionTable → Type 0
IsBestTable versions group resource table =
    (v : KnownVersion) × IsBest versions group resource v × (table ≡ v.table)
