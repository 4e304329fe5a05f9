-- Ordered lists of which the first item that isn't fine gives the answer: tests of which the first that fails is named, pieces of which the
-- first faulty one is refused, reasons of which the first that holds decides.
use Rattle.std.specs.Prelude.{◌≡◌, List, ◌∷◌, ◌++◌, All}

-- x is the first item of the list that isn't fine: all before it are fine, and it is faulty
pub record IsFirst {A : Type 0} (Fine Faulty : A → Type 0) (xs : List A) (x : A) : Type 0 where
  pub before : List A
  pub after : List A
  pub whole : xs ≡ before ++ x ∷ after
  pub fine : All Fine before
  pub faulty : Faulty x
