-- What follows from the meaning of a request.
use Rattle.std.specs.Prelude.{◌≡◌, ◌≢◌, ◌⊎◌, ◌↔◌, ◌+◌, ◌-◌, Option, Contains}
use Rattle.http_front.specs.Replies.{reply_codes}
use Rattle.http_front.specs.declared.reply.Reply.{Reply}
use Rattle.http_front.specs.declared.request.Request.{Request}
use Rattle.http_front.specs.declared.request.Verb.TheVariants.{Get, Post, Put, Delete}
use Rattle.object_journal.specs.declared.key.Key.{Key}
use Rattle.object_pages.specs.Fitting.{FitVersions}
use Rattle.object_state.specs.Objects.{Holds}
use Rattle.object_state.specs.State.{State}
use Rattle.object_state.specs.declared.object.Object.{Object}
use Rattle.request_target.specs.Targets.{Asked}
use Rattle.plain_machine.specs.Deciding.{IsDecided}
use Rattle.plain_machine.specs.Refusals.{IsNotRefused, IsRefused}
use Rattle.plain_machine.specs.Steps.{Step}
use Rattle.plain_machine.specs.declared.answer.Answer.{Answer}
use Rattle.plain_machine.specs.declared.decision.Decided.{Decided}
use Rattle.plain_machine.specs.declared.machine.Machine.{Machine}

-- the request isn't both refused and granted, and where it is refused it has one answer
pub record HasOneVerdict (s : State) (q : Request) : Type 0 where
  pub either : (asked : Option Asked) (answer : Answer)
      → IsRefused s q asked answer → ¬ IsNotRefused s q asked
  pub one : (asked : Option Asked) (answer other : Answer)
      → IsRefused s q asked answer → IsRefused s q asked other → answer ≡ other

-- the request has at most one reply, and leaves at most one state
abbrev pub HasOneStep : Machine → State → Request → Type 0
HasOneStep m s q = (reply other : Reply) (after later : State)
    → Step m s q reply after → Step m s q other later → (reply ≡ other) × (after ≡ later)

-- a request that is refused leaves the state, and so does a GET
pub record LeavesState (m : Machine) (s : State) (q : Request) : Type 0 where
  pub refused : (reply : Reply) (after : State) (step : Step m s q reply after) (answer : Answer)
      → IsRefused s q step.asked answer → after ≡ s
  pub read : (reply : Reply) (after : State) → Step m s q reply after → q.verb ≡ Get → after ≡ s

-- the state after a change of this key alone, which is the next revision; what the key holds then
-- is of that revision
pub record IsChangedAt (s : State) (key : Key) (after : State) : Type 0 where
  pub next : after.revision ≡ s.revision + 1
  pub own : (object : Object) → Holds after.objects key object → object.revision ≡ after.revision
  pub others : (other : Key) (object : Object) → other ≢ key
      → Holds after.objects other object ↔ Holds s.objects other object

-- the request leaves the state, or changes it at one key
abbrev pub ChangesOneKey : Machine → State → Request → Type 0
ChangesOneKey m s q = (reply : Reply) (after : State) → Step m s q reply after
    → (after ≡ s) ⊎ ((key : Key) × IsChangedAt s key after)

-- where the state changes, a creation makes one record more, a deletion one less, and new fields
-- leave their count
pub record CountsRecords (m : Machine) (s : State) (q : Request) : Type 0 where
  pub created : (reply : Reply) (after : State) → Step m s q reply after → after ≢ s
      → q.verb ≡ Post → after.records ≡ s.records + 1
  pub replaced : (reply : Reply) (after : State) → Step m s q reply after
      → q.verb ≡ Put → after.records ≡ s.records
  pub deleted : (reply : Reply) (after : State) → Step m s q reply after → after ≢ s
      → q.verb ≡ Delete → after.records ≡ s.records - 1

-- the code of the reply is one of those that replies have
pub record HasKnownCode (m : Machine) (s : State) (q : Request) : Type 0 where
  pub decided : (d : Decided) → IsDecided m s q d → Contains reply_codes d.reply.code
  pub replied : (reply : Reply) (after : State) → Step m s q reply after
      → Contains reply_codes reply.code

-- the objects go on fitting each version of their resources that the view has
abbrev pub GoesOnFitting : Machine → State → Request → Type 0
GoesOnFitting m s q = (reply : Reply) (after : State) → FitVersions m.view.versions s.objects
    → Step m s q reply after → FitVersions m.view.versions after.objects
