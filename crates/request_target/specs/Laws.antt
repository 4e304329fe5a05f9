-- What follows from what a path asks for.
use Rattle.std.specs.Prelude.{◌≡◌, ℕ, List, Option}
use Rattle.release_view.specs.Views.{Viewed}
use Rattle.request_target.specs.Targets.{Asked, AsksFor}

-- the path asks for one thing at most, and not both for one and for nothing
abbrev pub AsksForOne : Viewed → List ℕ → Type 0
AsksForOne view path = (a b : Option Asked) → AsksFor view path a → AsksFor view path b → a ≡ b
