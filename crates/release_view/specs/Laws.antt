-- What the tables of a release say of its view.
use Rattle.std.specs.Prelude.{◌≡◌, ◌≢◌, ◌↔◌, ℕ, List, true, Contains, Some, IsSome, option_map}
use Rattle.std.specs.declared.cmp.Ordering.TheVariants.{Greater}
use Rattle.fields.specs.declared.table.VersionTable.{VersionTable}
use Rattle.gate_flags.specs.Values.{Gates}
use Rattle.lifecycle.specs.Entry.{GroupVersionResource}
use Rattle.lifecycle.specs.Names.{group_version}
use Rattle.lifecycle.specs.Stability.{by_stability}
use Rattle.lifecycle.specs.Tables.{live, decodable, warning}
use Rattle.lifecycle.specs.Version.{IsWord, word_text}
use Rattle.lifecycle.specs.declared.entry.ApiEntry.{ApiEntry}
use Rattle.lifecycle.specs.declared.version.VersionWord.{VersionWord}
use Rattle.row_index.specs.Laws.{AreRowsOf}
use Rattle.schemas.specs.Dated.{Dated}
use Rattle.release_view.specs.Known.{Tables, name_of, table_name, naming, tables_at}
use Rattle.release_view.specs.Served.{shown_name}
use Rattle.release_view.specs.Views.{Viewed, IsViewable, IsViewOf, version_in, table_in, version_table_in, served_in, warning_in, has_live, best_table_in, IsBest}
use Rattle.release_view.specs.declared.known.KnownVersion.{KnownVersion}
use Rattle.release_view.specs.declared.served.ServedVersion.{ServedVersion}

-- ---- one view

-- a release has one view with these gates and served versions, also by a history that was cut at the release or later
pub record HasOneView (history cut : Dated) (e : ℕ) : Type 0 where
  pub one : (gates : Gates) (on_names : List GroupVersionResource) (v w : Viewed) →
      IsViewOf history e gates on_names v → IsViewOf history e gates on_names w → v ≡ w
  pub viewable : (gates : Gates) (on_names : List GroupVersionResource) →
      IsViewable history e gates on_names ↔ IsViewable cut e gates on_names
  pub same : (gates : Gates) (on_names : List GroupVersionResource) (v : Viewed) →
      IsViewOf history e gates on_names v ↔ IsViewOf cut e gates on_names v

-- ---- look-ups

-- of the versions each is the one that is found, by its name, by its texts, and where it is the best of its resource
pub record FindsEach (versions : List KnownVersion) : Type 0 where
  pub by_name : (v : KnownVersion) → Contains versions v → version_in versions (name_of v) ≡ Some v
  pub by_text : (v : KnownVersion) → Contains versions v →
      version_table_in versions (group_version v.table.group v.table.version)
      v.table.group v.table.resource ≡ Some v.table
  pub best : (group resource : List ℕ) (v : KnownVersion) → IsBest versions group resource v →
      best_table_in versions group resource ≡ Some v.table

-- some version of the resource is live
abbrev pub IsKindLive : List ApiEntry → List ℕ → List ℕ → Type 0
IsKindLive tables group resource =
    (version : List ℕ) ×
    (live tables (record { group = group; version = version; resource = resource }) ≡ true)

-- the table is that of this version: it has its name, its kind and its rows
pub record IsTableIn (knows : Tables) (name : GroupVersionResource)
    (t : VersionTable) : Type 0 where
  pub named : table_name t ≡ name
  pub kind : option_map (λ n. n.kind) (naming knows.apis name) ≡ Some t.kind
  pub rows : AreRowsOf knows.source name t.rows

-- what is shown is this version: it has its name, and what its introduction says
pub record IsShownIn (knows : Tables) (name : GroupVersionResource)
    (s : ServedVersion) : Type 0 where
  pub named : shown_name s ≡ name
  pub naming : naming knows.apis name
      ≡ Some (record { kind = s.kind; singular = s.singular; namespaced = s.namespaced })

-- the word's text
abbrev pub IsTextOf : VersionWord → List ℕ → Type 0
IsTextOf word text = IsWord word × (text ≡ word_text word)

-- of two versions of one resource the other isn't more stable
abbrev pub IsNotAbove : GroupVersionResource → GroupVersionResource → Type 0
IsNotAbove name other =
    (word other_word : VersionWord) →
    IsTextOf word name.version → IsTextOf other_word other.version →
    by_stability word other_word ≢ Greater

-- the version is live, and no live version of its resource is more stable
pub record IsMostStable (tables : List ApiEntry) (name : GroupVersionResource) : Type 0 where
  pub is_live : live tables name ≡ true
  pub stable : (other : GroupVersionResource) →
      other.group ≡ name.group → other.resource ≡ name.resource →
      live tables other ≡ true → IsNotAbove name other

-- the table is of the resource, in its most stable live version
pub record IsBestIn (tables : List ApiEntry) (group resource : List ℕ)
    (t : VersionTable) : Type 0 where
  pub of_group : t.group ≡ group
  pub of_resource : t.resource ≡ resource
  pub best : IsMostStable tables (table_name t)

-- what is looked up is what the tables and the served names say
pub record Tells (knows : Tables) (on_names : List GroupVersionResource)
    (view : Viewed) : Type 0 where
  pub decodes : (name : GroupVersionResource) →
      IsSome (table_in view.versions name) ↔ (decodable knows.apis name ≡ true)
  pub tables : (name : GroupVersionResource) (t : VersionTable) →
      table_in view.versions name ≡ Some t →
      IsTableIn knows name t
  pub serves : (name : GroupVersionResource) →
      IsSome (served_in view.versions name) ↔ Contains on_names name
  pub shows : (name : GroupVersionResource) (s : ServedVersion) →
      served_in view.versions name ≡ Some s →
      IsShownIn knows name s
  pub warned : (name : GroupVersionResource) →
      warning_in view.versions name ≡ warning knows.apis name
  pub kinds : (group resource : List ℕ) →
      (has_live view.versions group resource ≡ true) ↔ IsKindLive knows.apis group resource
  pub best : (group resource : List ℕ) (t : VersionTable) →
      best_table_in view.versions group resource ≡ Some t →
      IsBestIn knows.apis group resource t

-- of whichever history this is a view, what is looked up in it is what the tables of its release say, and what is
-- served
abbrev pub TellsTables : Viewed → Type 0
TellsTables view =
    (history : Dated) (e : ℕ) (on_names : List GroupVersionResource) →
    IsViewOf history e view.gates on_names view →
    Tells (tables_at history e view.gates) on_names view
