-- Of which releases a history speaks.
use Rattle.std.specs.Prelude.{ℕ, ◌≤◌, ◌<◌, ◌⊎◌}
use Rattle.schemas.specs.Dated.{Dated}
use Rattle.schemas.specs.Rules.{first_of, last_of}

-- the release isn't below the first one or above the last
pub record IsWithin (h : Dated) (o : ℕ) : Type 0 where
  pub from : first_of h ≤ o
  pub to : o ≤ last_of h

-- the release is below the first one or above the last
abbrev pub IsOutside : Dated → ℕ → Type 0
IsOutside h o = (o < first_of h) ⊎ (last_of h < o)
