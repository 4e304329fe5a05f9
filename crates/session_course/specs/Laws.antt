-- What follows from the definitions of courses.
use Rattle.std.specs.Prelude.{◌++◌, ℕ, List, []}
use Rattle.disk.specs.Beside.{Beside}
use Rattle.disk.specs.Images.{Images}
use Rattle.session_turns.specs.Turns.{Turn}
use Rattle.session_course.specs.Courses.{Course}
use Rattle.session_course.specs.Servers.{Server}

-- a course, and then another, are one of both's turns
abbrev pub CoursesJoin : {W : Type 0} → (W → ℕ) → (W → ℕ → Images → Type 0) → (W → Beside) → Type 0
CoursesJoin {W} clock may_leave beside =
    (a b c : Server) (first second third : W) (xs ys more : List Turn)
    → Course clock may_leave beside a b first second xs []
    → Course clock may_leave beside b c second third ys more
    → Course clock may_leave beside a c first third (xs ++ ys) more
