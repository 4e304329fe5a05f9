-- A server over a store, as contracts see it.
use Rattle.std.specs.Prelude.{◌≡◌, List, true, Option, Some, None}
use Rattle.fields.specs.declared.map.FieldPair.{FieldPair}
use Rattle.object_journal.specs.declared.key.Key.{Key}
use Rattle.object_state.specs.Objects.{Holds, HasKey}
use Rattle.object_state.specs.State.{State}
use Rattle.object_state.specs.declared.object.Object.{Object}
use Rattle.object_state.specs.declared.object.Stored.{Stored}
use Rattle.object_store.specs.Stores.{StoreRecord}
use Rattle.plain_machine.specs.declared.machine.Machine.{Machine}
use Rattle.release_view.specs.Later.{AreOfOneHistory}
use Rattle.release_view.specs.Views.{Viewed}
use Rattle.schemas.specs.Dated.{Dated}
use Rattle.stored_state.specs.Both.{StandForBoth}

-- what the server is: a machine, and the view of the earlier release to which one may go back; and what it keeps: a state,
-- and the store of its records
pub record Serving : Type 0 where
  pub machine : Machine
  pub back : Viewed
  pub state : State
  pub store : StoreRecord

-- both views are of one history, and the earlier one is that of the minimum compatibility; the records of the store stand
-- for the state by both
pub record IsServing (s : Serving) : Type 0 where
  pub history : Dated
  pub one : AreOfOneHistory history s.back s.machine.view
  pub least : s.machine.back ≡ s.back.minor
  pub stand : StandForBoth s.back s.machine.view s.store.items s.store.journal.revision s.state

-- the server after its disk failed: no commit may follow
abbrev pub ended : Serving → Serving
ended s = record s {
  store = record s.store { journal = record s.store.journal { ended = true }; spare = 0 };
}

-- all but the room that the store took is as it was
abbrev pub IsAsBefore : Serving → Serving → Type 0
IsAsBefore old new = new ≡ record old { store = record old.store { spare = new.store.spare } }

-- these are the fields of the object under the key, if there is one
abbrev pub FindsFields : List Stored → Key → Option (List FieldPair) → Type 0
FindsFields objects key None = ¬ HasKey objects key
FindsFields objects key (Some fields) =
    (object : Object) × Holds objects key object × (object.fields ≡ fields)
