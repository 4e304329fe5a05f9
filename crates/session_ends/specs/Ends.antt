-- How a session ends, and what it leaves.
use Rattle.std.specs.Prelude.{◌≡◌, ◌≤◌, ◌<◌, ℕ, List, [], ◌∷◌, ◌++◌, All, Result, Ok, Err, length}
use Rattle.disk.specs.Beside.{Beside, FrontEvent, End}
use Rattle.disk.specs.Images.{Images}
use Rattle.object_state.specs.State.{State}
use Rattle.served_steps.specs.Steps.{Steps}
use Rattle.session_course.specs.Courses.{LeavesFound, Throughout}
use Rattle.session_course.specs.Sends.{AreSent, exchanges}
use Rattle.session_course.specs.Servers.{Server}
use Rattle.session_turns.specs.Turns.{Turn, AreFirstTurns, AreTurns, HasNoEnd}
use Rattle.session_ends.specs.declared.fault.SessionFault.{SessionFault}
use Rattle.session_ends.specs.declared.fault.SessionFault.TheVariants as fault
use Rattle.session_ends.specs.declared.served.Served.{Served}

-- how many events a session takes at most, beside the end
abbrev pub most_events : ℕ
most_events = 4294967296

-- How many events were taken, and which of them have turns, by the session's answer. Where the disk
-- failed, one more turn was begun, which has no reply.
abbrev pub EndsBy : Result Served SessionFault → List FrontEvent → List Turn → List Turn → Type 0
EndsBy (Ok served) taken turns further = (events : List FrontEvent) × (taken ≡ events ++ End ∷ [])
    × HasNoEnd events × (length events < most_events) × AreTurns taken turns × (further ≡ [])
    × (served.requests ≡ length turns)
EndsBy (Err fault.Front) taken turns further =
    HasNoEnd taken × (length taken < most_events) × AreTurns taken turns × (further ≡ [])
EndsBy (Err fault.Spent) taken turns further =
    HasNoEnd taken × (length taken ≡ most_events) × AreTurns taken turns × (further ≡ [])
EndsBy (Err fault.Memory) taken turns further =
    HasNoEnd taken × (length taken ≤ most_events) × AreFirstTurns taken turns × (further ≡ [])
EndsBy (Err fault.Disk) taken turns further = (next : Turn) × (further ≡ next ∷ [])
    × HasNoEnd taken × (length taken ≤ most_events) × AreFirstTurns taken (turns ++ next ∷ [])

-- What a session leaves on a front that tells: turns of the events that were taken, answered by the
-- steps of the machine from the server's state, with the sends; and what a stop leaves at each moment.
pub record Serves {W : Type 0} (clock : W → ℕ) (may_leave : W → ℕ → Images → Type 0)
    (beside : W → Beside) (old new : Server) (from to : W)
    (result : Result Served SessionFault) : Type 0 where
  pub turns : List Turn
  pub sent : AreSent turns (beside to).sends
  pub steps : Steps old.machine old.state (exchanges turns) new.state
  -- one more, where the disk failed in its change
  pub further : List Turn
  pub begun : (after : State) × Steps old.machine old.state (exchanges (turns ++ further)) after
  pub ends : EndsBy result (beside to).taken turns further
  pub since : All (λ s. clock from ≤ s.at) (beside to).sends
  pub leaves : Throughout (clock from) (clock to) (may_leave from) (may_leave to)
      (LeavesFound old (exchanges (turns ++ further)) (beside to).sends)
