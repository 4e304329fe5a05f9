-- Passes over pieces that stop at their first fault.
use Rattle.std.specs.Prelude.{◌≡◌, ℕ, List, IsSome, None}
use Rattle.basis.specs.First.{IsFirst}
use Rattle.flag_text.specs.Pieces.{FlagPiece}
use Rattle.flag_text.specs.Said.{said}
use Rattle.flag_text.specs.declared.pass.PairCause.{PairCause}
use Rattle.flag_text.specs.declared.pass.PairCause.TheVariants.{NoValue, NoBoolean}
use Rattle.flag_text.specs.declared.vocabulary.Vocabulary.{Vocabulary}

-- the first piece that isn't fine is faulty, and stands at this place
pub record StopsAt (Fine Faulty : FlagPiece → Type 0)
    (ps : List FlagPiece) (place : ℕ) : Type 0 where
  pub piece : FlagPiece
  pub first : IsFirst Fine Faulty ps piece
  pub at : piece.place ≡ place

-- the piece has a `=` and a boolean word behind it
abbrev pub HasBoolean : Vocabulary → FlagPiece → Type 0
HasBoolean words p = IsSome (said words p)

-- why the piece has not
abbrev pub LacksBoolean : Vocabulary → FlagPiece → PairCause → Type 0
LacksBoolean words p NoValue = p.value ≡ None
LacksBoolean words p NoBoolean = IsSome p.value × (said words p ≡ None)
