-- What follows from the definitions.
use Rattle.std.specs.Prelude.{◌≡◌, ℕ, List}
use Rattle.object_journal.specs.declared.entry.Entry.{Entry}
use Rattle.object_journal.specs.declared.key.Key.{Key}
use Rattle.object_store.specs.Records.{RecoversTo}
use Rattle.object_store.specs.Stores.{StoreRecord, Recalls}
use Rattle.object_store.specs.declared.item.Item.{Item}
use Rattle.release_view.specs.Views.{Viewed}
use Rattle.storage_version.specs.Standing.{AreReadable}
use Rattle.stored_state.specs.Both.{AreWithin}
use Rattle.stored_state.specs.Reading.{IsFirstUnreadable}

-- records that both releases read have no first one that isn't read; others have at most one
pub record HaveOneAnswer (back view : Viewed) (items : List Item) : Type 0 where
  pub either : (key : Key) (version : List ℕ) (minor : ℕ)
      → IsFirstUnreadable back view items key version minor
      → AreReadable view.versions items → ¬ AreReadable back.versions items
  pub one : (key other : Key) (version told : List ℕ) (minor release : ℕ)
      → IsFirstUnreadable back view items key version minor
      → IsFirstUnreadable back view items other told release
      → (key ≡ other) × (version ≡ told) × (minor ≡ release)

-- what bytes give is within the revision that they give
abbrev pub RecoverWithin : List ℕ → Type 0
RecoverWithin bytes = (items : List Item) (revision : ℕ)
    → RecoversTo bytes items revision → AreWithin items revision

-- and so is what a store holds of its entries
abbrev pub HoldsWithin : StoreRecord → Type 0
HoldsWithin store = (entries : List Entry) → Recalls store entries
    → AreWithin store.items store.journal.revision
