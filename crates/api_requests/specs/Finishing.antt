-- What a request leaves of the server, and what a stop during it may leave on the disk.
use Rattle.std.specs.Prelude.{◌≡◌, ◌⊎◌, ◌≤◌, ℕ, List, Option, IsSome}
use Rattle.disk.specs.Images.{Pending, Images, Each}
use Rattle.disk.specs.declared.file.File.{File}
use Rattle.http_front.specs.declared.reply.Reply.{Reply}
use Rattle.http_front.specs.declared.request.Request.{Request}
use Rattle.object_journal.specs.Standing.{chosen, OthersMayBe}
use Rattle.object_journal.specs.declared.entry.Entry.{Entry}
use Rattle.object_state.specs.State.{State, IsNext}
use Rattle.object_state.specs.declared.object.Change.{Change}
use Rattle.object_store.specs.Stores.{HasEntries}
use Rattle.plain_machine.specs.Deciding.{IsDecided}
use Rattle.plain_machine.specs.Steps.{Step}
use Rattle.plain_machine.specs.declared.decision.Decided.{Decided}
use Rattle.stored_state.specs.Both.{GoOnKept, Restores}
use Rattle.api_requests.specs.Serving.{Serving}

-- the records of the store stand on the disk
abbrev pub StandsOnDisk : Type 0 → Images → (File → Pending) → Serving → Type 0
StandsOnDisk tells held pending s =
    (entries : List Entry) × HasEntries tells held pending s.store entries

-- the server is what it was, its revision is no lower, and its records are what is kept of the old ones
pub record GoesOn (old new : Serving) : Type 0 where
  pub machine : new.machine ≡ old.machine
  pub back : new.back ≡ old.back
  pub later : old.state.revision ≤ new.state.revision
  pub kept : GoOnKept old.back old.machine.view old.store.items old.store.journal.revision old.state
      new.store.items new.store.journal.revision new.state

-- the bytes of a file restore this state, from that of the server
abbrev pub RestoresState : Serving → List ℕ → State → Type 0
RestoresState s = Restores s.back s.machine.view s.store.items s.store.journal.revision s.state

-- what a stop leaves now, where nothing of the store's file is pending, restores the present state
abbrev pub RestoresNow : Type 0 → Images → (File → Pending) → Serving → Type 0
RestoresNow tells held pending s = StandsOnDisk tells held pending s → tells → (images : Images)
    → Each pending images → RestoresState s (images chosen) s.state

-- a stop leaves the state as it was, or as it is after the change, if there is one
pub record LeavesState (pending : File → Pending) (s : Serving) (change : Option Change)
    (images : Images) : Type 0 where
  pub file : RestoresState s (images chosen) s.state
      ⊎ ((next : State) × IsNext s.state change next × RestoresState s (images chosen) next)
  pub others : OthersMayBe pending images

-- a stop leaves the state as it was, or as it is after the request's step
pub record LeavesStep (pending : File → Pending) (s : Serving) (q : Request)
    (images : Images) : Type 0 where
  pub file : RestoresState s (images chosen) s.state
      ⊎ ((reply : Reply) × (after : State) × Step s.machine s.state q reply after
      × RestoresState s (images chosen) after)
  pub others : OthersMayBe pending images

-- the request changes the state
abbrev pub ChangesState : Serving → Request → Type 0
ChangesState s q = (d : Decided) × IsDecided s.machine s.state q d × IsSome d.change
