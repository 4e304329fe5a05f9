-- What a session leaves, from a course by whose turns it ends.
use Rattle.std.proofs.Common.{◌≡◌, ℕ, ◌≤◌, List, ◌++◌, All, subst}
use Rattle.disk.specs.Beside.{Beside, Sent}
use Rattle.disk.specs.Images.{Images}
use Rattle.session_course.proofs.CourseLemmas.{found_throughout, sends_are_all}
use Rattle.session_course.specs.Courses.{LeavesFound, Throughout}
use Rattle.session_course.specs.Sends.{AreSent, exchanges}
use Rattle.session_ends.specs.Laws.{ServesByCourse}

module _ {W : Type 0} (clock : W → ℕ) (may_leave : W → ℕ → Images → Type 0) (beside : W → Beside) where
  pub serves_by : ServesByCourse clock may_leave beside
  serves_by old new from to result turns further course none within own ends =
      let all : course.sends ≡ (beside to).sends = sends_are_all clock may_leave beside old new from to turns further course none in
      record {
        turns = turns;
        sent = subst (λ (sends : List Sent). AreSent turns sends) all course.sent;
        steps = course.steps;
        further = further;
        begun = course.begun;
        ends = ends;
        since = subst (λ (sends : List Sent). All (λ s. clock from ≤ s.at) sends) all course.since;
        leaves = subst (λ (sends : List Sent). Throughout (clock from) (clock to) (may_leave from) (may_leave to) (LeavesFound old (exchanges (turns ++ further)) sends)) all
            (found_throughout clock may_leave beside old new from to turns further course within own);
      }
