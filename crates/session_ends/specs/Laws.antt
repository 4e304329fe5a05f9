-- What follows from the definitions.
use Rattle.std.specs.Prelude.{◌≡◌, ◌+◌, ℕ, List, [], Result}
use Rattle.conn_mux.specs.Held.{Held, Appends}
use Rattle.disk.specs.Beside.{Beside, Piece}
use Rattle.disk.specs.Images.{Images}
use Rattle.session_course.specs.Courses.{Course}
use Rattle.session_course.specs.Servers.{Server}
use Rattle.session_ends.specs.Ends.{EndsBy, Serves}
use Rattle.session_ends.specs.Pieces.{AreAllTurns, AreSomeTurns}
use Rattle.session_ends.specs.declared.fault.SessionFault.{SessionFault}
use Rattle.session_ends.specs.declared.served.Served.{Served}
use Rattle.session_turns.specs.Caught.{AreCaughtUp}
use Rattle.session_turns.specs.Turns.{Turn, Position, AreFirstOf, AreTurnsOf, behind}
use Rattle.storage_version.specs.Kept.{AreKept}
use Rattle.stored_state.specs.Both.{AreWithin}

-- All turns that a mux gives of a piece are the piece's, and the mux is caught up behind them.
abbrev pub GivesTurns : Type 0
GivesTurns = (p : Position) (c : ℕ) (bytes : List ℕ) (turns : List Turn) (old mid new : Held)
    → AreCaughtUp p.streams old → Appends old c bytes mid → AreAllTurns mid c (p.seen + 1) turns new
    → AreTurnsOf p (Piece c bytes) turns × AreCaughtUp (behind p (Piece c bytes) turns).streams new

-- The first turns are the piece's first ones.
abbrev pub GivesFirst : Type 0
GivesFirst = (p : Position) (c : ℕ) (bytes : List ℕ) (turns : List Turn) (old mid : Held)
    → AreCaughtUp p.streams old → Appends old c bytes mid → AreSomeTurns mid c (p.seen + 1) turns
    → AreFirstOf p (Piece c bytes) turns

-- A course from a front that had sent nothing, of a server that keeps its records as its own, is
-- what a session leaves that ends by its turns.
abbrev pub ServesByCourse : {W : Type 0} → (W → ℕ) → (W → ℕ → Images → Type 0) → (W → Beside) → Type 0
ServesByCourse {W} clock may_leave beside =
    (old new : Server) (from to : W) (result : Result Served SessionFault) (turns further : List Turn)
    → Course clock may_leave beside old new from to turns further → (beside from).sends ≡ []
    → AreWithin old.items old.state.revision
    → AreKept old.back.versions old.machine.view.versions old.items old.state old.items old.revision
    → EndsBy result (beside to).taken turns further
    → Serves clock may_leave beside old new from to result
