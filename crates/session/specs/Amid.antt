-- Where the loops of a session stand.
use Rattle.std.specs.Prelude.{◌≡◌, ℕ, List, [], false, length}
use Rattle.conn_mux.specs.Held.{Held}
use Rattle.disk.specs.Beside.{Beside}
use Rattle.disk.specs.Images.{Images}
use Rattle.session_course.specs.Courses.{Course}
use Rattle.session_course.specs.Servers.{Server}
use Rattle.session_ends.specs.Pieces.{GaveItems}
use Rattle.session_turns.specs.Caught.{AreCaughtUp}
use Rattle.session_turns.specs.Turns.{Turn, AreOf, HasNoEnd, Leads, Position, beginning, items_in, some_ends}

-- amid a piece of a connection: so many turns, none of which ended it
pub record IsAmidPiece {W : Type 0} (clock : W → ℕ) (may_leave : W → ℕ → Images → Type 0)
    (beside : W → Beside) (old new : Server) (from to : W) (c seen : ℕ) (had : Held) (answered : ℕ)
    (held : Held) : Type 0 where
  pub turns : List Turn
  pub course : Course clock may_leave beside old new from to turns []
  pub of_c : AreOf c seen turns
  pub going : some_ends turns ≡ false
  pub gave : GaveItems had c (items_in turns) held
  pub count : answered ≡ length turns

-- between two events: so many events were taken, without the end, and had so many turns
pub record IsAmidEvents {W : Type 0} (clock : W → ℕ) (may_leave : W → ℕ → Images → Type 0)
    (beside : W → Beside) (old new : Server) (from to : W) (events requests : ℕ)
    (held : Held) : Type 0 where
  pub turns : List Turn
  pub at : Position
  pub course : Course clock may_leave beside old new from to turns []
  pub leads : Leads beginning (beside to).taken turns at
  pub seen : at.seen ≡ length (beside to).taken
  pub going : HasNoEnd (beside to).taken
  pub many : length (beside to).taken ≡ events
  pub caught : AreCaughtUp at.streams held
  pub count : requests ≡ length turns
