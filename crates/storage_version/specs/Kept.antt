-- The records that are kept as a state changes.
use Rattle.std.specs.Prelude.{◌≡◌, ◌≢◌, ◌⊎◌, ◌↔◌, ℕ, ◌+◌, List, Some, None, Contains}
use Rattle.fields.specs.Fits.{Fits}
use Rattle.fields.specs.declared.table.VersionTable.{VersionTable}
use Rattle.object_journal.specs.declared.entry.Entry.{Entry}
use Rattle.object_journal.specs.declared.entry.Change.TheVariants.{Removal}
use Rattle.object_journal.specs.declared.key.Key.{Key}
use Rattle.object_state.specs.Objects.{Holds, HasKey}
use Rattle.object_state.specs.State.{State}
use Rattle.object_state.specs.declared.object.Change.{Change}
use Rattle.object_state.specs.declared.object.Object.{Object}
use Rattle.object_store.specs.Records.{AreInKeyOrder, put_of}
use Rattle.object_store.specs.declared.item.Item.{Item}
use Rattle.release_view.specs.declared.known.KnownVersion.{KnownVersion}
use Rattle.storage_version.specs.Bodies.{IsBodyOf}
use Rattle.storage_version.specs.Standing.{IsLive}
use Rattle.storage_version.specs.Storage.{storage_table_in}

-- ---- one change

-- the record is that of the object under the key: it has its revisions, and its body in the storage version
pub record IsStoredAs (back versions : List KnownVersion) (key : Key) (object : Object)
    (item : Item) : Type 0 where
  pub of_key : item.key ≡ key
  pub created : item.created ≡ object.created
  pub revision : item.revision ≡ object.revision
  pub table : VersionTable
  pub in_version : storage_table_in back versions key.group key.resource ≡ Some table
  pub body : IsBodyOf table object.fields item.body

-- the entry puts the record of the object under the key
abbrev pub IsPutOf : List KnownVersion → List KnownVersion → Key → Object → Entry → Type 0
IsPutOf back versions key object e =
    (item : Item) × (put_of item ≡ e) × IsStoredAs back versions key object item

-- the entry, the next one after this revision, makes the change of the state: it puts the record of the object that the
-- change leaves, or removes the key
pub record IsEntryOf (back versions : List KnownVersion) (revision : ℕ) (change : Change)
    (e : Entry) : Type 0 where
  pub of_key : e.key ≡ change.key
  pub next : e.revision ≡ revision + 1
  pub put : (object : Object) → change.object ≡ Some object
      → IsPutOf back versions change.key object e
  pub removal : change.object ≡ None → e.change ≡ Removal

-- A change that a server makes of a state. It is of a live kind. The object that it leaves has the next revision, and
-- fields of the storage version; what it takes out is there.
pub record IsChangeOf (back versions : List KnownVersion) (state : State)
    (change : Change) : Type 0 where
  pub live : IsLive versions change.key
  pub next : (object : Object) → change.object ≡ Some object
      → object.revision ≡ state.revision + 1
  pub fits : (object : Object) (table : VersionTable) → change.object ≡ Some object
      → storage_table_in back versions change.key.group change.key.resource ≡ Some table
      → Fits table.rows object.fields
  pub held : change.object ≡ None → HasKey state.objects change.key

-- ---- any number of changes

-- no old record of the key has the object's revision
abbrev pub IsTouched : List Item → Key → Object → Type 0
IsTouched old key object = (item : Item) → Contains old item → item.key ≡ key
    → item.revision ≢ object.revision

-- what is kept of an object: the old record of its key, where that has the object's revision; else the record of the
-- object in the storage version
abbrev pub IsKeptOf : List KnownVersion → List KnownVersion → List Item → Object → Item → Type 0
IsKeptOf back versions old object item =
    (Contains old item × (item.revision ≡ object.revision))
    ⊎ (IsTouched old item.key object × IsStoredAs back versions item.key object item)

-- foreign records are kept as they are
abbrev pub IsForeignIn : List KnownVersion → List Item → Item → Type 0
IsForeignIn versions old item = (¬ IsLive versions item.key) × Contains old item

-- of a live kind, what is kept of the object that the state has under the key
abbrev pub IsOfObject : List KnownVersion → List KnownVersion → List Item → State → Item → Type 0
IsOfObject back versions old state item = IsLive versions item.key
    × ((object : Object) × Holds state.objects item.key object
    × IsKeptOf back versions old object item)

-- The records that are kept of the old ones for a later state, at its revision. A key of a live kind that the state
-- doesn't have is gone.
pub record AreKept (back versions : List KnownVersion) (old : List Item) (state : State)
    (new : List Item) (revision : ℕ) : Type 0 where
  pub order : AreInKeyOrder new
  pub exact : (item : Item) → Contains new item
      ↔ (IsForeignIn versions old item ⊎ IsOfObject back versions old state item)
  pub at_revision : revision ≡ state.revision
