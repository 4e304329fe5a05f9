use Rattle.std.proofs.Common.{◌≡◌, ◌⊎◌, ℕ, ◌+◌, ◌<◌, ◌≤◌, get_or}
use Rattle.disk.proofs.slots.overwrite.Given as goal

abbrev pub invariant-loop-k : goal.invariant-loop-k
invariant-loop-k l = record {
  inside : (j : ℕ) → j < l.k → get_or l.held (l.at + j) 0 ≡ get_or l.bytes j 0;
  outside : (j : ℕ) → (j < l.at) ⊎ (l.at + l.k ≤ j) → get_or l.held j 0 ≡ get_or l.fn.held j 0;
}
