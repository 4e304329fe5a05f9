-- Which records two releases read, the one that is emulated and an earlier one to which one may go back; and why a server
-- doesn't start from others.
use Rattle.std.specs.Prelude.{◌≡◌, ◌⊎◌, ℕ, List}
use Rattle.basis.specs.First.{IsFirst}
use Rattle.object_journal.specs.declared.key.Key.{Key}
use Rattle.object_store.specs.declared.item.Item.{Item}
use Rattle.release_view.specs.Views.{Viewed}
use Rattle.release_view.specs.declared.known.KnownVersion.{KnownVersion}
use Rattle.storage_version.specs.Bodies.{IsReadable, TellsVersion}
use Rattle.storage_version.specs.Standing.{IsLive}
use Rattle.stored_state.specs.declared.fault.StartFault.{StartFault}
use Rattle.stored_state.specs.declared.fault.StartFault.TheVariants.{Undecodable, Memory}

-- the record is readable where its kind is live
abbrev pub IsReadWhereLive : List KnownVersion → Item → Type 0
IsReadWhereLive versions item =
    IsLive versions item.key → IsReadable versions item.key.group item.key.resource item.body

-- the record's kind is live in the view, which doesn't read it; this is the version that its body tells
pub record IsUnreadable (view : Viewed) (item : Item) (version : List ℕ) : Type 0 where
  pub live : IsLive view.versions item.key
  pub unread : ¬ IsReadable view.versions item.key.group item.key.resource item.body
  pub told : TellsVersion item.body version

-- both releases read the record
pub record IsReadByBoth (back view : Viewed) (item : Item) : Type 0 where
  pub later : IsReadWhereLive view.versions item
  pub earlier : IsReadWhereLive back.versions item

-- this release doesn't read the record: the emulated one; or the earlier one, where the emulated one does
abbrev pub IsUnreadableAt : Viewed → Viewed → Item → ℕ → List ℕ → Type 0
IsUnreadableAt back view item minor version =
    (IsUnreadable view item version × (minor ≡ view.minor))
    ⊎ (IsReadWhereLive view.versions item × IsUnreadable back item version × (minor ≡ back.minor))

-- of these records, in their order, the first that not both releases read has this key; its body tells this version, and
-- this release doesn't read it
pub record IsFirstUnreadable (back view : Viewed) (items : List Item) (key : Key)
    (version : List ℕ) (minor : ℕ) : Type 0 where
  pub item : Item
  pub first : IsFirst (IsReadByBoth back view)
      (λ r. IsUnreadableAt back view r minor version) items item
  pub of_key : item.key ≡ key

-- why no server starts from the records; want of memory is free
abbrev pub IsStartFault : Viewed → Viewed → List Item → StartFault → Type 0
IsStartFault back view items (Undecodable key version minor) =
    IsFirstUnreadable back view items key version minor
IsStartFault back view items Memory = Unit {0}
