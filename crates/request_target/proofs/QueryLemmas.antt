-- Names of the pieces of a query.
use Rattle.std.proofs.Common.{◌≡◌, ℕ, ◌+◌, ◌<◌, ◌≤◌, ◌==◌, Bool, true, false, List, [], ◌∷◌, length, take, drop, Option, Some, None, cond, refl, sym, ◌∙◌, ap, arith, length-drop}
use Rattle.std.specs.Prelude.{find, map, nat_lt, option_and_then, position}
use Rattle.std.specs.Option.{option_map_or}
use Rattle.std.specs.List.{after_first, position_or_len, slice_split}
use Rattle.std.proofs.lemmas.List.{take_all}
use Rattle.std.proofs.lemmas.List.Splits.{slice_split_first, slice_split_none}
use Rattle.std.proofs.lemmas.List.Sums.{fails_before_first}
use Rattle.std.proofs.lemmas.Bool.Decides.{nat_tests}
use Rattle.request_target.specs.Queries.{IsCut, is_unsupported, piece_name, unsupported}

-- ---- cuts

some_place : (b : Bool) (at n : ℕ) → Some at ≡ cond b (Some n) None → (b ≡ true) × (at ≡ n)
some_place true at n e = (refl, cc)
some_place false at n e = absurd cc

no_place : (b : Bool) (n : ℕ) → None ≡ cond b (Some n) None → b ≡ false
no_place true n e = absurd cc
no_place false n e = refl

is_below : (n m : ℕ) → nat_lt n m ≡ true → n < m
is_below n m e = grind (arith, nat_tests)

not_below : (n m : ℕ) → nat_lt n m ≡ false → m ≤ n
not_below n m e = grind (arith, nat_tests)

module _ (p : ℕ → Bool) (text : List ℕ) where
  pub cut_some : (front rest : List ℕ) (at : ℕ) → Some at ≡ position p text → front ≡ take at text → rest ≡ drop (at + 1) text → IsCut p text front (Some rest)
  cut_some front rest at e is_front is_rest =
      let (below, same) = some_place (nat_lt (position_or_len p text) (length text)) at (position_or_len p text) e in
      record {
        before = is_front ∙ ap (λ n. take n text) same;
        some = (is_below (position_or_len p text) (length text) below, is_rest ∙ ap (λ n. drop (n + 1) text) same);
        none = tt;
      }

  pub cut_none : None ≡ position p text → IsCut p text text None
  cut_none e =
      let long : length text ≤ position_or_len p text = not_below (position_or_len p text) (length text) (no_place (nat_lt (position_or_len p text) (length text)) (position_or_len p text) e) in
      record { before = sym (take_all (position_or_len p text) text long); some = tt; none = long }

  -- the first part of a list that is split, and the others
  split_at : (front : List ℕ) (behind : Option (List ℕ)) → IsCut p text front behind → (others : List (List ℕ)) × (slice_split p text ≡ front ∷ others)
  split_at front None cut =
      let whole : text ≡ front = sym (take_all (position_or_len p text) text cut.none) ∙ sym cut.before in
      ([], slice_split_none p text (λ k d below. fails_before_first p text k d (let long = cut.none in omega arith)) ∙ ap (λ t. t ∷ []) whole)
  split_at front (Some rest) cut =
      (slice_split p (after_first p text), slice_split_first p text 0 cut.some.0 ∙ ap (λ t. t ∷ slice_split p (after_first p text)) (sym cut.before))

  split_whole : (front : List ℕ) → IsCut p text front None → slice_split p text ≡ front ∷ []
  unfolding split_at
  split_whole front cut = (split_at front None cut).1

  split_rest : (front rest : List ℕ) → IsCut p text front (Some rest) → slice_split p text ≡ front ∷ slice_split p rest
  unfolding split_at
  split_rest front rest cut = (split_at front (Some rest) cut).1 ∙ ap (λ t. front ∷ slice_split p t) (sym cut.some.1)

  shorter : (front rest : List ℕ) → IsCut p text front (Some rest) → length rest < length text
  shorter front rest cut =
      let below : position_or_len p text < length text = cut.some.0 in
      let is : length rest ≡ length (drop (position_or_len p text + 1) text) = ap length cut.some.1 in
      omega (arith, length-drop (position_or_len p text + 1) text)

-- ---- the first that is refused

chosen_some : (b : Bool) (n m : List ℕ) → Some n ≡ cond b (Some m) None → (b ≡ true) × (n ≡ m)
chosen_some true n m e = (refl, cc)
chosen_some false n m e = absurd cc

chosen_none : (b : Bool) (m : List ℕ) → None ≡ cond b (Some m) None → b ≡ false
chosen_none true m e = absurd cc
chosen_none false m e = refl

module _ (query front name : List ℕ) (named : name ≡ piece_name front) where
  pub refused_here : (behind : Option (List ℕ)) (told : List ℕ) → IsCut (λ c. c == 38) query front behind → Some told ≡ cond (is_unsupported name) (Some name) None → Some told ≡ unsupported query
  refused_here behind told cut e =
      let (refused, is) = chosen_some (is_unsupported name) told name e in
      let parts = split_at (λ c. c == 38) query front behind cut in
      let first : is_unsupported (piece_name front) ≡ true = ap is_unsupported (sym named) ∙ refused in
      let here : cond (is_unsupported (piece_name front)) (Some (piece_name front)) (find is_unsupported (map piece_name parts.0)) ≡ Some (piece_name front) =
      ap (λ b. cond b (Some (piece_name front)) (find is_unsupported (map piece_name parts.0))) first in
      ap Some (is ∙ named) ∙ sym here ∙ ap (λ ps. find is_unsupported (map piece_name ps)) (sym parts.1)

  refused_behind : (rest : List ℕ) → IsCut (λ c. c == 38) query front (Some rest) → None ≡ cond (is_unsupported name) (Some name) None → unsupported rest ≡ unsupported query
  refused_behind rest cut e =
      let first : is_unsupported (piece_name front) ≡ false = ap is_unsupported (sym named) ∙ chosen_none (is_unsupported name) name e in
      let next : cond (is_unsupported (piece_name front)) (Some (piece_name front)) (unsupported rest) ≡ unsupported rest = ap (λ b. cond b (Some (piece_name front)) (unsupported rest)) first in
      sym next ∙ ap (λ ps. find is_unsupported (map piece_name ps)) (sym (split_rest (λ c. c == 38) query front rest cut))

  refused_nowhere : IsCut (λ c. c == 38) query front None → None ≡ cond (is_unsupported name) (Some name) None → None ≡ unsupported query
  refused_nowhere cut e =
      let first : is_unsupported (piece_name front) ≡ false = ap is_unsupported (sym named) ∙ chosen_none (is_unsupported name) name e in
      let next : cond (is_unsupported (piece_name front)) (Some (piece_name front)) None ≡ None = ap (λ b. cond b (Some (piece_name front)) None) first in
      sym next ∙ ap (λ ps. find is_unsupported (map piece_name ps)) (sym (split_whole (λ c. c == 38) query front cut))

  pub refused_later : (behind : Option (List ℕ)) → IsCut (λ c. c == 38) query front behind → None ≡ cond (is_unsupported name) (Some name) None → option_and_then unsupported behind ≡ unsupported query
  refused_later None cut e = refused_nowhere cut e
  refused_later (Some rest) cut e = refused_behind rest cut e

-- how much is left of a query
abbrev pub left_of : Option (List ℕ) → ℕ
left_of left = option_map_or (λ text. length text + 1) left 0

pub left_shorter : (text front : List ℕ) (behind : Option (List ℕ)) → IsCut (λ c. c == 38) text front behind → left_of behind < left_of (Some text)
left_shorter text front None cut = omega arith
left_shorter text front (Some rest) cut = let less = shorter (λ c. c == 38) text front rest cut in omega arith
