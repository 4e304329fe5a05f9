-- What a server keeps, and what goes on of it while it serves.
use Rattle.std.specs.Prelude.{◌≡◌, ◌⊎◌, ◌+◌, ◌≤◌, ℕ, List, ◌++◌, length}
use Rattle.object_state.specs.State.{State}
use Rattle.object_store.specs.Records.{RecoversTo}
use Rattle.object_store.specs.declared.item.Item.{Item}
use Rattle.plain_machine.specs.declared.machine.Machine.{Machine}
use Rattle.release_view.specs.Views.{Viewed}
use Rattle.served_steps.specs.Steps.{Exchange, Steps}
use Rattle.storage_version.specs.Kept.{AreKept}
use Rattle.stored_state.specs.Both.{GoOnKept, Restores, StandForBoth}

-- its machine, the earlier release to which one may go back, the state, and the records with the
-- revision of their store
pub record Server : Type 0 where
  pub machine : Machine
  pub back : Viewed
  pub state : State
  pub items : List Item
  pub revision : ℕ

-- the machine is the same, the revision doesn't fall, and what was kept is kept
pub record Continues (old new : Server) : Type 0 where
  pub machine : new.machine ≡ old.machine
  pub back : new.back ≡ old.back
  pub later : old.state.revision ≤ new.state.revision
  pub kept : GoOnKept old.back old.machine.view old.items old.revision old.state
      new.items new.revision new.state

-- the bytes of a file restore the state, from what the server keeps
abbrev pub IsRestored : Server → List ℕ → State → Type 0
IsRestored s bytes state =
    Restores s.back s.machine.view s.items s.revision s.state bytes state

-- the bytes of a file give the records that are kept of the server's for this state, and that stand
-- for it by both releases
pub record IsFound (s : Server) (bytes : List ℕ) (state : State) : Type 0 where
  pub records : List Item
  pub revision : ℕ
  pub recovers : RecoversTo bytes records revision
  pub stand : StandForBoth s.back s.machine.view records revision state
  pub kept : AreKept s.back.versions s.machine.view.versions s.items state records revision

-- after the first n of the exchanges the server is in this state
pub record IsAfter (s : Server) (xs : List Exchange) (n : ℕ) (state : State) : Type 0 where
  pub front : List Exchange
  pub behind : List Exchange
  pub parts : xs ≡ front ++ behind
  pub many : length front ≡ n
  pub steps : Steps s.machine s.state front state

-- after the first n, or after one more if there is one
abbrev pub IsAfterOrNext : Server → List Exchange → ℕ → State → Type 0
IsAfterOrNext s xs n state = IsAfter s xs n state ⊎ IsAfter s xs (n + 1) state
