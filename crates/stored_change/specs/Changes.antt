-- Changes of a state that the store of its records can take.
use Rattle.std.specs.Prelude.{◌≡◌, ◌+◌, ◌<◌, Some}
use Rattle.object_journal.specs.Journal.{most_keys, last_revision}
use Rattle.object_state.specs.Objects.{HasKey, Holds}
use Rattle.object_state.specs.State.{State}
use Rattle.object_state.specs.declared.object.Change.{Change}
use Rattle.object_state.specs.declared.object.Object.{Object}
use Rattle.release_view.specs.Views.{Viewed}
use Rattle.storage_version.specs.Kept.{IsChangeOf}

-- the object that the change leaves was created when the stored one was, or is created by the change
pub record KeepsCreation (state : State) (change : Change) : Type 0 where
  pub stored : (object old : Object) → change.object ≡ Some object
      → Holds state.objects change.key old → object.created ≡ old.created
  pub fresh : (object : Object) → change.object ≡ Some object
      → ¬ HasKey state.objects change.key → object.created ≡ state.revision + 1

-- the store has room for one more record where the key is new, and a next revision
pub record HasRoomFor (state : State) (change : Change) : Type 0 where
  pub room : ¬ HasKey state.objects change.key → state.records < most_keys
  pub more : state.revision < last_revision

pub record IsStorable (back view : Viewed) (state : State) (change : Change) : Type 0 where
  pub of_server : IsChangeOf back.versions view.versions state change
  pub created : KeepsCreation state change
  pub room : HasRoomFor state change
