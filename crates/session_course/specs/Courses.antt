-- What a server does on its front between two moments: turns, their sends, and what a stop leaves
-- at each moment.
use Rattle.std.specs.Prelude.{◌≡◌, ◌↔◌, ◌≤◌, ℕ, List, ◌++◌, All}
use Rattle.disk.specs.Beside.{Beside, Sent}
use Rattle.disk.specs.Images.{Images}
use Rattle.object_journal.specs.Standing.{chosen}
use Rattle.object_state.specs.State.{State}
use Rattle.served_steps.specs.Steps.{Exchange, Steps}
use Rattle.session_turns.specs.Turns.{Turn}
use Rattle.session_course.specs.Sends.{AreSent, answered, exchanges}
use Rattle.session_course.specs.Servers.{Server, Continues, IsRestored, IsFound, IsAfterOrNext}

-- The moments before the first one keep what a stop leaves then. At each from the first one to the
-- present a stop leaves this.
pub record Throughout (from now : ℕ) (past present : ℕ → Images → Type 0)
    (Leaves : ℕ → Images → Type 0) : Type 0 where
  pub later : from ≤ now
  pub kept : (t : ℕ) (images : Images) → t ≤ from → present t images ↔ past t images
  pub holds : (t : ℕ) (images : Images) → from ≤ t → t ≤ now → present t images
      → Leaves t images

-- a stop at the moment leaves the state after as many exchanges as were answered by then, or after
-- one more
abbrev pub LeavesAnswered : Server → List Exchange → List Sent → ℕ → Images → Type 0
LeavesAnswered s xs sends t images = (state : State)
    × IsAfterOrNext s xs (answered t sends) state × IsRestored s (images chosen) state

-- and the records that are kept for it
abbrev pub LeavesFound : Server → List Exchange → List Sent → ℕ → Images → Type 0
LeavesFound s xs sends t images = (state : State)
    × IsAfterOrNext s xs (answered t sends) state × IsFound s (images chosen) state

-- From old to new the server answered these turns, whose sends are those that came to the front;
-- and it began one more, if any, that has no reply.
pub record Course {W : Type 0} (clock : W → ℕ) (may_leave : W → ℕ → Images → Type 0)
    (beside : W → Beside) (old new : Server) (from to : W) (turns further : List Turn) : Type 0 where
  pub sends : List Sent
  pub added : (beside to).sends ≡ (beside from).sends ++ sends
  pub sent : AreSent turns sends
  pub since : All (λ s. clock from ≤ s.at) sends
  pub until : All (λ s. s.at ≤ clock to) sends
  pub steps : Steps old.machine old.state (exchanges turns) new.state
  pub begun : (after : State) × Steps old.machine old.state (exchanges (turns ++ further)) after
  pub continues : Continues old new
  pub moments : Throughout (clock from) (clock to) (may_leave from) (may_leave to)
      (LeavesAnswered old (exchanges (turns ++ further)) sends)

-- what a stop leaves at the present moment restores the server's state
abbrev pub IsPresent : {W : Type 0} → (W → ℕ) → (W → ℕ → Images → Type 0) → Server → W → Type 0
IsPresent clock may_leave s w =
    (images : Images) → may_leave w (clock w) images → IsRestored s (images chosen) s.state
