use Rattle.std.proofs.Common.{◌≡◌, ◌⊎◌, ℕ, ◌<◌, ◌≤◌, get_or}
use Rattle.disk.proofs.stop.fill.Given as goal

abbrev pub invariant-loop-k : goal.invariant-loop-k
invariant-loop-k l = record {
  inside : (j : ℕ) → l.start ≤ j → j < l.k → get_or l.bytes j 0 ≡ l.byte;
  outside : (j : ℕ) → (j < l.start) ⊎ (l.k ≤ j) → get_or l.bytes j 0 ≡ get_or l.fn.bytes j 0;
}
