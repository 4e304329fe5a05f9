-- The puts that entries leave, as a map from their keys.
use Rattle.std.specs.Prelude.{◌≡◌, ◌↔◌, List, Some}
use Rattle.std.specs.BTreeMap.{BTreeMap, get}
use Rattle.object_journal.specs.declared.key.Key.{Key}
use Rattle.object_journal.specs.declared.entry.Entry.{Entry}
use Rattle.object_journal.specs.Journal.{Leaves}
use Rattle.object_journal.specs.KeyOrder.{by_key}
use Rattle.object_store.specs.declared.item.Item.{Item}
use Rattle.object_store.specs.declared.recovered.Held.{Held}
use Rattle.object_store.specs.Records.{put_of}

-- the record of a key and what is held of it
abbrev pub item_at : Key × Held → Item
item_at p = record { key = p.0; revision = p.1.revision; created = p.1.created; body = p.1.body }

-- a key holds what its put left
abbrev pub AreLeft : BTreeMap Key Held → List Entry → Type 0
AreLeft held entries = (k : Key) (h : Held) → (get by_key held k ≡ Some h) ↔ Leaves entries (put_of (item_at (k, h)))
