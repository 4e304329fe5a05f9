-- What an opening of the store leaves on a front's disk, and which stores are refused.
use Rattle.std.specs.Prelude.{◌≡◌, ◌⊎◌, ℕ, List}
use Rattle.disk.specs.Beside.{Beside}
use Rattle.disk.specs.Images.{Images, IsStill, Pending}
use Rattle.disk.specs.Moments.{Moments}
use Rattle.disk.specs.declared.file.File.{File}
use Rattle.object_journal.specs.Journal.{IsRefusal}
use Rattle.object_journal.specs.Standing.{IsUnsynced, chosen}
use Rattle.object_journal.specs.declared.key.Key.{Key}
use Rattle.object_store.specs.Records.{RecoversTo}
use Rattle.object_store.specs.Stores.{KeepsRecords}
use Rattle.object_store.specs.declared.item.Item.{Item}
use Rattle.release_view.specs.Views.{Viewed}
use Rattle.stored_state.specs.Reading.{IsFirstUnreadable}

-- each file holds what it held
abbrev pub HoldSame : Images → Images → Type 0
HoldSame old new = (f : File) → new f ≡ old f

-- Nothing was taken of the front, and nothing sent. Unless the first sync failed, a stop at each moment from its end on
-- leaves the records that the file gave; and where nothing of the file was pending, so does one at each moment.
pub record IsOpening {W : Type 0} (clock : W → ℕ) (may_leave : W → ℕ → Images → Type 0) (held : W → Images)
    (pending : W → File → Pending) (beside : W → Beside) (old new : W) : Type 0 where
  pub same : beside new ≡ beside old
  pub records : IsUnsynced clock may_leave held pending old new
      ⊎ Moments clock may_leave old new (λ _ images. KeepsRecords (held old chosen) (images chosen))
  pub rested : IsStill (held old) (pending old) chosen
      → Moments clock may_leave old new (λ _ images. KeepsRecords (held old chosen) (images chosen))

-- the bytes of the store's file break the grammar at this place
abbrev pub IsNoStore : List ℕ → File → ℕ → Type 0
IsNoStore bytes file at = (file ≡ chosen) × IsRefusal bytes at

-- of the records that the bytes give, the first that not both releases read has this key; this release doesn't read it, in
-- this version
pub record HasUnreadable (back view : Viewed) (bytes : List ℕ) (key : Key) (version : List ℕ)
    (minor : ℕ) : Type 0 where
  pub items : List Item
  pub revision : ℕ
  pub recovered : RecoversTo bytes items revision
  pub unreadable : IsFirstUnreadable back view items key version minor
