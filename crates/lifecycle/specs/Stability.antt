-- The order of versions, the most stable first (Kubernetes version priority).
use Rattle.std.specs.Prelude.{ℕ}
use Rattle.std.specs.declared.cmp.Ordering.{Ordering}
use Rattle.std.specs.Ordering.{nat_cmp, on, flip_args, then_cmp}
use Rattle.lifecycle.specs.declared.version.Level.{Level}
use Rattle.lifecycle.specs.declared.version.Level.TheVariants.{Ga, Beta, Alpha}
use Rattle.lifecycle.specs.declared.version.VersionWord.{VersionWord}

abbrev pub rank_of : Level → ℕ
rank_of Ga = 0
rank_of (Beta n) = 1
rank_of (Alpha n) = 2

-- the number behind `beta` or `alpha`
abbrev pub number_of : Level → ℕ
number_of Ga = 0
number_of (Beta n) = n
number_of (Alpha n) = n

-- general availability before beta before alpha; then the greater major number first; then the
-- greater number of the level first
abbrev pub by_stability : VersionWord → VersionWord → Ordering
by_stability =
    then_cmp (on (λ w. rank_of w.level) nat_cmp)
    (then_cmp (flip_args (on (λ w. w.major) nat_cmp))
    (flip_args (on (λ w. number_of w.level) nat_cmp)))
