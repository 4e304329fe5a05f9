-- The keys that a reader holds.
use Rattle.std.specs.Prelude.{◌≡◌, ◌≢◌, ◌↔◌, ◌⊎◌, List, IsTrue}
use Rattle.std.specs.BTreeSet.{BTreeSet, contains}
use Rattle.object_journal.specs.declared.key.Key.{Key}
use Rattle.object_journal.specs.declared.entry.Entry.{Entry}
use Rattle.object_journal.specs.KeyOrder.{by_key}
use Rattle.object_journal.specs.Journal.{IsHeld}

-- the keys are those that the entries leave held
abbrev pub AreHeld : BTreeSet Key → List Entry → Type 0
AreHeld held entries = (k : Key) → IsTrue (contains by_key held k) ↔ IsHeld entries k

-- the key is added to the others
abbrev pub Holds : BTreeSet Key → BTreeSet Key → Key → Type 0
Holds old new key = (k : Key) → IsTrue (contains by_key new k) ↔ ((key ≡ k) ⊎ IsTrue (contains by_key old k))

-- the key is taken from the others
abbrev pub Releases : BTreeSet Key → BTreeSet Key → Key → Type 0
Releases old new key = (k : Key) → IsTrue (contains by_key new k) ↔ ((key ≢ k) × IsTrue (contains by_key old k))
