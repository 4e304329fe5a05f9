-- What is drawn is below the limit.
use Rattle.std.proofs.Common.{ℕ, ◌<◌}
use Rattle.std.proofs.lemmas.Nat.{mod_below}
use Rattle.workload.specs.Draws.{draw}

pub draw_below : (m x : ℕ) → 0 < m → draw m x < m
unfolding draw
draw_below m x some = mod_below _ m some
