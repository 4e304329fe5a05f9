-- Queries that aren't supported.
use Rattle.std.specs.Prelude.{◌≡◌, ◌==◌, ◌<◌, ◌≤◌, ℕ, List, [], ◌∷◌, Bool, Option, IfSome, IfNone, codes, find, length, map}
use Rattle.std.specs.List.{after_first, before_first, list_any, position_or_len, slice_split}
use Rattle.std.specs.Str.{bytes_eq}

-- what stands before the first element that passes, and what stands behind it; all and nothing,
-- where none passes
pub record IsCut (p : ℕ → Bool) (text front : List ℕ) (behind : Option (List ℕ)) : Type 0 where
  pub before : front ≡ before_first p text
  pub some : IfSome behind (λ rest.
      (position_or_len p text < length text) × (rest ≡ after_first p text))
  pub none : IfNone behind (length text ≤ position_or_len p text)

-- the name of a piece of a query: what stands before its first `=`, or all of it
abbrev pub piece_name : List ℕ → List ℕ
piece_name piece = before_first (λ c. c == 61) piece

-- the names of what would change the meaning of a request, which are refused; any other name is
-- ignored
abbrev pub unsupported_names : List (List ℕ)
unsupported_names =
    codes "watch" ∷ codes "dryRun" ∷ codes "labelSelector" ∷ codes "fieldSelector"
    ∷ codes "continue" ∷ []

abbrev pub is_unsupported : List ℕ → Bool
is_unsupported name = list_any (λ word. bytes_eq word name) unsupported_names

-- the first such name in the query, whose pieces are parted by `&`
abbrev pub unsupported : List ℕ → Option (List ℕ)
unsupported query = find is_unsupported (map piece_name (slice_split (λ c. c == 38) query))
