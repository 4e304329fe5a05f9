-- Counts of faults: a fault is answered only where the count of the object that was handed in rose.
use Rattle.std.specs.Prelude.{◌≡◌, ℕ, ◌-◌, ◌^◌, ◌<◌, ◌≤◌, ◌⊎◌, OnErr}
use Rattle.std.specs.declared.result.Result.{Result}

-- the count is above what it was, or stands at the greatest value of a u64, where it can't rise any more
abbrev pub Rose : ℕ → ℕ → Type 0
Rose before now = (before < now) ⊎ (now ≡ 2 ^ 64 - 1)

-- the count of a called object: it never falls, and a refusal raised it
pub record HasCause {T E : Type 0} (before now : ℕ) (result : Result T E) : Type 0 where
  pub later : before ≤ now
  pub failed : OnErr result (Rose before now)
