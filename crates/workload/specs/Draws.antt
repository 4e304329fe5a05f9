-- Numbers that look random: a linear congruential generator modulo 2^64.
use Rattle.std.specs.Prelude.{ℕ, ◌+◌, ◌*◌, ◌/◌, ◌%◌, ◌^◌}

-- the state behind a draw
unfoldable pub next : ℕ → ℕ
next x = (x * 6364136223846793005 + 1442695040888963407) % 2 ^ 64

-- the number below m that is drawn: of the upper bits of the state behind the draw
unfoldable pub draw : ℕ → ℕ → ℕ
draw m x = (next x / 2 ^ 33) % m
