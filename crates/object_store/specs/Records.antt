-- The records that entries leave, in key order.
use Rattle.std.specs.Prelude.{◌≡◌, ◌≢◌, ◌⊎◌, ◌↔◌, ℕ, List, Contains}
use Rattle.object_journal.specs.declared.key.Key.{Key}
use Rattle.object_journal.specs.declared.entry.Entry.{Entry}
use Rattle.object_journal.specs.declared.entry.Change.TheVariants.{Put}
use Rattle.object_journal.specs.Journal.{Leaves, IsJournal, revision_after}
use Rattle.key_order.specs.Order as keyed
use Rattle.object_store.specs.declared.item.Item.{Item}

-- the put that makes a record
abbrev pub put_of : Item → Entry
put_of r = record { key = r.key; revision = r.revision; change = Put r.created r.body }

-- the key of each is below those of the records behind it
abbrev pub AreInKeyOrder : List Item → Type 0
AreInKeyOrder items = keyed.AreInKeyOrder (λ r. r.key) items

-- a record is there exactly where the entries leave its put
pub record AreRecords (entries : List Entry) (items : List Item) : Type 0 where
  pub ordered : AreInKeyOrder items
  pub exact : (r : Item) → Contains items r ↔ Leaves entries (put_of r)

-- The entry's change of records: a put sets its key, a removal deletes it, and the records of other keys stay.
pub record IsChanged (old : List Item) (e : Entry) (new : List Item) : Type 0 where
  pub ordered : AreInKeyOrder new
  pub exact : (r : Item) → Contains new r ↔ ((put_of r ≡ e) ⊎ (Contains old r × (r.key ≢ e.key)))

-- a record of the key is there
abbrev pub HoldsKey : List Item → Key → Type 0
HoldsKey items key = keyed.HoldsKey (λ r. r.key) items key

-- The bytes of a file give these records at this revision: those that the entries leave which the bytes mean.
pub record RecoversTo (bytes : List ℕ) (items : List Item) (revision : ℕ) : Type 0 where
  pub base : ℕ
  pub entries : List Entry
  pub means : IsJournal bytes base entries
  pub records : AreRecords entries items
  pub revision_is : revision ≡ revision_after base entries
