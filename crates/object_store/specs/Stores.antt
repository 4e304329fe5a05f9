-- A store: what it holds, what it stands on, and the entry that a commit takes.
use Rattle.std.specs.Prelude.{◌≡◌, ◌⊎◌, ℕ, ◌+◌, ◌≤◌, List, All, Contains, length, Result, IsErrOf}
use Rattle.disk.specs.declared.file.File.{File}
use Rattle.disk.specs.Images.{Pending, Images}
use Rattle.disk.specs.Moments.{Moments}
use Rattle.object_journal.specs.declared.key.Key.{Key}
use Rattle.object_journal.specs.declared.entry.Entry.{Entry}
use Rattle.object_journal.specs.declared.entry.Change.{Change}
use Rattle.object_journal.specs.declared.entry.Change.TheVariants.{Put, Removal}
use Rattle.object_journal.specs.declared.appending.Journal.{Journal}
use Rattle.object_journal.specs.declared.opening.OpenFault.{OpenFault}
use Rattle.object_journal.specs.declared.opening.OpenFault.TheVariants.{Memory}
use Rattle.object_journal.specs.Journal.{AreLawful, IsJournal, HasLawfulTexts, MayFollow, last_revision, most_keys, revision_after}
use Rattle.object_journal.specs.Standing.{chosen, StandsOn, OthersMayBe, IsMended, IsUnsynced, Opens}
use Rattle.object_store.specs.declared.item.Item.{Item}
use Rattle.object_store.specs.Records.{AreRecords, HoldsKey, IsChanged, RecoversTo}

-- the records in key order, their journal, and for how many more there is room that a ready call took: 0 or 1
pub record StoreRecord : Type 0 where
  pub items : List Item
  pub journal : Journal
  pub spare : ℕ

abbrev pub HaveLawfulTexts : List Item → Type 0
HaveLawfulTexts items = All (λ r. HasLawfulTexts r.key) items

-- the records are those that these lawful entries leave
pub record Recalls (s : StoreRecord) (entries : List Entry) : Type 0 where
  pub base_fits : s.journal.base ≤ last_revision
  pub lawful : AreLawful s.journal.base entries
  pub revision : s.journal.revision ≡ revision_after s.journal.base entries
  pub records : AreRecords entries s.items

-- the store's journal stands on the disk with these entries, which leave its records
pub record HasEntries (tells : Type 0) (held : Images) (pending : File → Pending) (s : StoreRecord) (entries : List Entry) : Type 0 where
  pub stands : StandsOn tells held pending s.journal entries
  pub records : AreRecords entries s.items

-- ---- entries of a store

-- of records at a revision: there is no room for a put of the key
abbrev pub IsFull : List Item → ℕ → Key → Type 0
IsFull items revision key = (last_revision ≤ revision) ⊎ ((¬ HoldsKey items key) × (most_keys ≤ length items))

-- the revision at which a key was created: that of its record, or the next one
pub record IsCreated (items : List Item) (key : Key) (next created : ℕ) : Type 0 where
  pub held : (r : Item) → Contains items r → r.key ≡ key → created ≡ r.created
  pub fresh : ¬ HoldsKey items key → created ≡ next

-- the next put of the key, with this body
pub record IsPutOf (items : List Item) (revision : ℕ) (key : Key) (body : List ℕ) (e : Entry) : Type 0 where
  pub key_is : e.key ≡ key
  pub next : e.revision ≡ revision + 1
  pub created : ℕ
  pub put : e.change ≡ Put created body
  pub keeps : IsCreated items key (revision + 1) created

-- the next removal of the key
pub record IsRemovalOf (revision : ℕ) (key : Key) (e : Entry) : Type 0 where
  pub key_is : e.key ≡ key
  pub next : e.revision ≡ revision + 1
  pub removal : e.change ≡ Removal

-- a put keeps the created revision of a held key, and a new key is created at the put
abbrev pub KeepsCreated : List Item → Entry → Change → Type 0
KeepsCreated items e (Put created body) = IsCreated items e.key e.revision created
KeepsCreated items e Removal = Unit {0}

-- the entry may follow those of the store, as its next one
pub record MayCommit (s : StoreRecord) (entries : List Entry) (e : Entry) : Type 0 where
  pub follows : MayFollow s.journal.base entries e
  pub next : e.revision ≡ s.journal.revision + 1
  pub keeps : KeepsCreated s.items e e.change

-- ---- what a stop leaves

-- these are the records before the entry or those after it, at the revision of then
abbrev pub IsBeforeOrAfter : StoreRecord → Entry → List ℕ → Type 0
IsBeforeOrAfter s e bytes = RecoversTo bytes s.items s.journal.revision
    ⊎ ((after : List Item) × IsChanged s.items e after × RecoversTo bytes after e.revision)

pub record LeavesRecords (pending : File → Pending) (s : StoreRecord) (e : Entry) (images : Images) : Type 0 where
  pub file : IsBeforeOrAfter s e (images chosen)
  pub others : OthersMayBe pending images

-- the records that the old bytes give, the new ones give
abbrev pub KeepsRecords : List ℕ → List ℕ → Type 0
KeepsRecords old new = (items : List Item) (revision : ℕ) → RecoversTo old items revision → RecoversTo new items revision

-- the new bytes are the old ones, mended as an opening does, and both mean the same base and entries
pub record MeanOne (old new : List ℕ) : Type 0 where
  pub base : ℕ
  pub entries : List Entry
  pub first : IsJournal old base entries
  pub second : IsJournal new base entries
  pub mended : IsMended old base new

-- How an opening of the store ends on a disk that tells: as that of its journal. Unless the first sync failed, a stop
-- at each moment from its end on leaves the records that the file gave. Where memory runs out after the file was
-- mended, it means what it meant.
pub record OpensStore {D T : Type 0} (clock : D → ℕ) (may_leave : D → ℕ → Images → Type 0) (held : D → Images)
    (pending : D → File → Pending) (old new : D) (result : Result T OpenFault) : Type 0 where
  pub journal : Opens clock may_leave held pending old new result
  pub records : IsUnsynced clock may_leave held pending old new
      ⊎ Moments clock may_leave old new (λ _ images. KeepsRecords (held old chosen) (images chosen))
  pub memory : IsErrOf result Memory → (held new ≡ held old) ⊎ MeanOne (held old chosen) (held new chosen)
