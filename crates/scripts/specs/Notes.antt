-- Numbers that are noted in room that was made before.
use Rattle.std.specs.Prelude.{ℕ, List}

-- the numbers, and how many more have room
pub record Noted : Type 0 where
  pub noted : List ℕ
  pub room : ℕ
