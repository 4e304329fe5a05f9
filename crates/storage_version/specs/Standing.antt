-- Records of a store, and the state that they stand for by the versions that a release reads.
use Rattle.std.specs.Prelude.{◌≡◌, ◌↔◌, ℕ, List, true, Option, length, Contains, option_map, filter_map}
use Rattle.fields.specs.Fits.{restricted}
use Rattle.fields.specs.declared.table.VersionTable.{VersionTable}
use Rattle.object_journal.specs.declared.key.Key.{Key}
use Rattle.object_state.specs.Objects.{AreInKeyOrder, Holds}
use Rattle.object_state.specs.State.{State}
use Rattle.object_state.specs.declared.object.Object.{Object}
use Rattle.object_state.specs.declared.object.Stored.{Stored}
use Rattle.object_store.specs.declared.item.Item.{Item}
use Rattle.release_view.specs.Views.{has_live, best_table_in}
use Rattle.release_view.specs.declared.known.KnownVersion.{KnownVersion}
use Rattle.storage_version.specs.Bodies.{IsBodyRead, IsReadable}

-- the kind of the key's resource is live. A record of a kind that isn't is foreign
abbrev pub IsLive : List KnownVersion → Key → Type 0
IsLive versions key = has_live versions key.group key.resource ≡ true

-- the record is read as this object
pub record IsReadAs (versions : List KnownVersion) (item : Item) (object : Object) : Type 0 where
  pub created : object.created ≡ item.created
  pub revision : object.revision ≡ item.revision
  pub fields : IsBodyRead versions item.key.group item.key.resource item.body object.fields

-- a record of the key, which is of a live kind, is read as this object
pub record HasRecord (items : List Item) (versions : List KnownVersion) (key : Key)
    (object : Object) : Type 0 where
  pub item : Item
  pub among : Contains items item
  pub of_key : item.key ≡ key
  pub live : IsLive versions key
  pub read : IsReadAs versions item object

-- each record of a live kind is readable
abbrev pub AreReadable : List KnownVersion → List Item → Type 0
AreReadable versions items = (item : Item) → Contains items item → IsLive versions item.key
    → IsReadable versions item.key.group item.key.resource item.body

-- The records, at this revision of their store, stand for the state: its objects are those that the records of live
-- kinds are read as, each of which is readable. It counts all records, the foreign ones among them.
pub record StandsFor (items : List Item) (revision : ℕ) (versions : List KnownVersion)
    (state : State) : Type 0 where
  pub order : AreInKeyOrder state.objects
  pub readable : AreReadable versions items
  pub exact : (key : Key) (object : Object)
      → Holds state.objects key object ↔ HasRecord items versions key object
  pub counted : state.records ≡ length items
  pub at_revision : state.revision ≡ revision

-- ---- what an earlier release knows of a state

-- the object with what it holds of the fields that these rows know
abbrev pub known_object : VersionTable → Object → Object
known_object table object = record {
  created = object.created;
  revision = object.revision;
  fields = restricted table.rows object.fields;
}

-- the object under its key, if the kind is live, with those of its fields that the versions know
abbrev pub known_of : List KnownVersion → Stored → Option Stored
known_of versions s =
    option_map (λ table. record { key = s.key; object = known_object table s.object })
    (best_table_in versions s.key.group s.key.resource)

-- the objects whose kinds are live, with their known fields; the revision and the count of records are as they were
abbrev pub known_part : List KnownVersion → State → State
known_part versions state = record {
  objects = filter_map (known_of versions) state.objects;
  revision = state.revision;
  records = state.records;
}
