-- The last element of a list that grows.
use Rattle.std.specs.Prelude.{ℕ, List, [], ◌∷◌, Bool, false, Option, Some, None, unwrap_or}
use Rattle.std.specs.Str.{bytes_eq}

abbrev pub last_text : List (List ℕ) → Option (List ℕ)
last_text [] = None
last_text (x ∷ xs) = Some (unwrap_or (last_text xs) x)

abbrev pub is_last : Option (List ℕ) → List ℕ → Bool
is_last None x = false
is_last (Some y) x = bytes_eq x y
