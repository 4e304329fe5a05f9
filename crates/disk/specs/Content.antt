-- What a file in memory held at first, and what it holds.
use Rattle.std.specs.Prelude.{ℕ, List}

pub record Content : Type 0 where
  pub first : List ℕ
  pub held : List ℕ
