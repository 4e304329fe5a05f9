use Rattle.std.proofs.Common.{ℕ, ◌+◌, ◌<◌, take}
use Rattle.http_front.specs.Heads.{EndsHead}
use Rattle.http_front.proofs.head.head_len.Given as goal

abbrev pub invariant-loop-at : goal.invariant-loop-at
invariant-loop-at l = (m : ℕ) → m < l.at + 1 → EndsHead (take m l.text) → ⊥
