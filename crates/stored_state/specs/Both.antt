-- Records that stand for a state by the release that is emulated, and for what an earlier one knows of it; and that go on
-- being what is kept of older records.
use Rattle.std.specs.Prelude.{◌≤◌, ℕ, List, Contains}
use Rattle.object_state.specs.State.{State}
use Rattle.object_store.specs.Records.{RecoversTo}
use Rattle.object_store.specs.declared.item.Item.{Item}
use Rattle.release_view.specs.Views.{Viewed}
use Rattle.storage_version.specs.Kept.{AreKept}
use Rattle.storage_version.specs.Standing.{StandsFor, known_part}

pub record StandForBoth (back view : Viewed) (items : List Item) (revision : ℕ)
    (state : State) : Type 0 where
  pub later : StandsFor items revision view.versions state
  pub earlier : StandsFor items revision back.versions (known_part back.versions state)

-- none of the records is above the revision
abbrev pub AreWithin : List Item → ℕ → Type 0
AreWithin items revision = (item : Item) → Contains items item → item.revision ≤ revision

-- whatever records these are what is kept of for the state, for the later state those are
abbrev pub GoOnKept : Viewed → Viewed → List Item → ℕ → State → List Item → ℕ → State → Type 0
GoOnKept back view items revision state new next_revision next =
    (old : List Item) → AreWithin old state.revision
    → AreKept back.versions view.versions old state items revision
    → AreKept back.versions view.versions old next new next_revision

-- The bytes of a file restore the state: they give records that stand for it by both releases, and that are kept where the
-- former records were, for the former state.
pub record Restores (back view : Viewed) (items : List Item) (revision : ℕ) (former : State)
    (bytes : List ℕ) (state : State) : Type 0 where
  pub records : List Item
  pub at_revision : ℕ
  pub recovers : RecoversTo bytes records at_revision
  pub stand : StandForBoth back view records at_revision state
  pub kept : GoOnKept back view items revision former records at_revision state
