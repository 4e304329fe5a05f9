-- The script that a seed makes for a view.
use Rattle.std.specs.Prelude.{◌≡◌, ℕ, List, [], ◌∷◌, length}
use Rattle.release_view.specs.Views.{Viewed}
use Rattle.scripts.specs.declared.script.ScriptEvent.{ScriptEvent}
use Rattle.workload.specs.Groups.{events_of}
use Rattle.workload.specs.Requests.{IsDrawn}
use Rattle.workload.specs.declared.request.Request.{Request}

-- the requests are drawn one after another, from the state x up to the state z
abbrev pub AreDrawn : Viewed → ℕ → List Request → ℕ → Type 0
AreDrawn view x [] z = z ≡ x
AreDrawn view x (r ∷ rs) z = (y : ℕ) × IsDrawn view x r y × AreDrawn view y rs z

-- the events bring so many requests, drawn from the seed on
pub record IsWorkload (view : Viewed) (seed size : ℕ) (events : List ScriptEvent) : Type 0 where
  pub requests : List Request
  pub behind : ℕ
  pub drawn : AreDrawn view seed requests behind
  pub count : length requests ≡ size
  pub brings : events ≡ events_of requests

-- a view, a seed and a size have one such script
abbrev pub HasOneWorkload : Viewed → ℕ → ℕ → Type 0
HasOneWorkload view seed size =
    (a b : List ScriptEvent) → IsWorkload view seed size a → IsWorkload view seed size b → a ≡ b
