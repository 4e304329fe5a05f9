-- Links from each entry to an earlier one.
use Rattle.std.specs.Prelude.{ℕ, ◌≡◌, ◌<◌, List, Option, Some, length, take, slice_get}
use Rattle.std.specs.Option.{option_copied}
use Rattle.std.specs.Borrow.{Bor}

-- each of the first n entries is linked to the earlier entry that the function finds for it, if
-- there is one
pub record AreLinked {E : Type 0} (earlier_of : List E → E → Option E) (xs : List E) (n : ℕ)
    (links : List (Option (Bor E))) : Type 0 where
  pub count : length links ≡ n
  pub linked : (i : ℕ) (x : E) (link : Option (Bor E)) → i < n → slice_get xs i ≡ Some x
      → slice_get links i ≡ Some link → option_copied link ≡ earlier_of (take i xs) x
