-- What follows from the definitions of what is stored and what is read.
use Rattle.std.specs.Prelude.{◌≡◌, ◌≤◌, ◌+◌, ℕ, List, Some, Contains}
use Rattle.fields.specs.Fits.{Fits, restricted}
use Rattle.fields.specs.declared.map.FieldPair.{FieldPair}
use Rattle.fields.specs.declared.table.VersionTable.{VersionTable}
use Rattle.object_journal.specs.declared.entry.Entry.{Entry}
use Rattle.object_state.specs.State.{State, IsApplied}
use Rattle.object_state.specs.declared.object.Change.{Change}
use Rattle.object_store.specs.Records.{AreInKeyOrder, IsChanged}
use Rattle.object_store.specs.declared.item.Item.{Item}
use Rattle.release_view.specs.Later.{AreOfOneHistory}
use Rattle.release_view.specs.Views.{Viewed, IsViewByTexts, best_table_in}
use Rattle.release_view.specs.declared.known.KnownVersion.{KnownVersion}
use Rattle.schemas.specs.Dated.{Dated}
use Rattle.storage_version.specs.Bodies.{IsBodyOf, IsBodyRead}
use Rattle.storage_version.specs.Kept.{IsEntryOf, IsChangeOf, AreKept}
use Rattle.storage_version.specs.Standing.{AreReadable, StandsFor, known_part}
use Rattle.storage_version.specs.Storage.{storage_table_in}

-- what is stored in a version that the release reads is read by it as the same fields
abbrev pub ReadsOwn : List KnownVersion → Type 0
ReadsOwn versions = (v : KnownVersion) (held : List FieldPair) (body : List ℕ)
    → Contains versions v → Fits v.table.rows held → IsBodyOf v.table held body
    → IsBodyRead versions v.table.group v.table.resource body held

-- what is stored in the storage version is read by the earlier release, where the kind is live there, as what the map
-- holds of the fields that it knows
abbrev pub ReadsKnown : Viewed → Viewed → Type 0
ReadsKnown back view = (history : Dated) → AreOfOneHistory history back view
    → (group resource : List ℕ) (known table : VersionTable) (held : List FieldPair) (body : List ℕ)
    → best_table_in back.versions group resource ≡ Some known
    → storage_table_in back.versions view.versions group resource ≡ Some table
    → Fits table.rows held → IsBodyOf table held body
    → IsBodyRead back.versions group resource body (restricted known.rows held)

-- a body is read as one map of fields at most
abbrev pub ReadsOnce : List KnownVersion → Type 0
ReadsOnce versions = (group resource body : List ℕ) (held other : List FieldPair)
    → IsBodyRead versions group resource body held → IsBodyRead versions group resource body other
    → held ≡ other

-- what is read of a body of the resource fits each version of it that the release reads
abbrev pub ReadsFitting : List KnownVersion → Type 0
ReadsFitting versions = (v : KnownVersion) (body : List ℕ) (held : List FieldPair)
    → Contains versions v → IsBodyRead versions v.table.group v.table.resource body held
    → Fits v.table.rows held

-- what fits a version of the resource that the release reads fits the storage version
abbrev pub FitsStorage : List KnownVersion → List KnownVersion → Type 0
FitsStorage back versions = (v : KnownVersion) (held : List FieldPair) (table : VersionTable)
    → Contains versions v → Fits v.table.rows held
    → storage_table_in back versions v.table.group v.table.resource ≡ Some table
    → Fits table.rows held

-- and so does what the release reads of a body of the resource
abbrev pub ReadsFittingStorage : List KnownVersion → List KnownVersion → Type 0
ReadsFittingStorage back versions = (group resource body : List ℕ) (held : List FieldPair)
    (table : VersionTable) → IsBodyRead versions group resource body held
    → storage_table_in back versions group resource ≡ Some table → Fits table.rows held

-- views of a history that texts make are of one history, where their releases aren't far apart
abbrev pub MakeOneHistory : Dated → Viewed → Viewed → Type 0
MakeOneHistory history back view = (m e : ℕ) (features config later_features later_config : List ℕ)
    → IsViewByTexts history m features config back
    → IsViewByTexts history e later_features later_config view
    → m ≤ e → e ≤ m + 3 → AreOfOneHistory history back view

-- ---- records and states

-- records stand for one state at most
abbrev pub StandsForOne : List KnownVersion → Type 0
StandsForOne versions = (items : List Item) (revision : ℕ) (state other : State)
    → StandsFor items revision versions state → StandsFor items revision versions other
    → state ≡ other

-- records that stand for a state stand, under the earlier release, for what it knows of that, where it reads those of
-- kinds that are live there
abbrev pub StandsWhereReadable : Viewed → Viewed → Type 0
StandsWhereReadable back view = (history : Dated) → AreOfOneHistory history back view
    → (items : List Item) (revision : ℕ) (state : State)
    → StandsFor items revision view.versions state → AreReadable back.versions items
    → StandsFor items revision back.versions (known_part back.versions state)

-- a step of a server: the state changes, and the records by the entry of that change
pub record IsStep (back view : Viewed) (old : List Item) (revision : ℕ) (state : State)
    (change : Change) (e : Entry) (new : List Item) (next : State) : Type 0 where
  pub order : AreInKeyOrder old
  pub of_server : IsChangeOf back.versions view.versions state change
  pub applied : IsApplied state change next
  pub entry : IsEntryOf back.versions view.versions revision change e
  pub changed : IsChanged old e new

-- records go on standing for the state, and for what the earlier release knows of it
abbrev pub GoesOnStanding : Viewed → Viewed → Type 0
GoesOnStanding back view = (history : Dated) → AreOfOneHistory history back view
    → (old new : List Item) (revision : ℕ) (state next : State) (change : Change) (e : Entry)
    → IsStep back view old revision state change e new next
    → StandsFor old revision view.versions state
    → StandsFor new e.revision view.versions next
    × (StandsFor old revision back.versions (known_part back.versions state)
    → StandsFor new e.revision back.versions (known_part back.versions next))

-- The records that are kept as a state changes. Before any change they are the old ones; after a further step they are
-- those that the step leaves, where no old record is above the revision before it; and for each state they are one
-- list.
pub record KeepsRecords (back view : Viewed) : Type 0 where
  pub unchanged : (old : List Item) (revision : ℕ) (state : State)
      → AreInKeyOrder old → StandsFor old revision view.versions state
      → AreKept back.versions view.versions old state old revision
  pub stepped : (old records new : List Item) (revision : ℕ) (state next : State) (change : Change)
      (e : Entry) → ((item : Item) → Contains old item → item.revision ≤ state.revision)
      → IsStep back view records revision state change e new next
      → AreKept back.versions view.versions old state records revision
      → AreKept back.versions view.versions old next new e.revision
  pub once : (old records others : List Item) (state : State) (revision other : ℕ)
      → AreKept back.versions view.versions old state records revision
      → AreKept back.versions view.versions old state others other
      → (records ≡ others) × (revision ≡ other)
