-- The last entry before a place that passes a test.
use Rattle.std.proofs.Common.{ℕ, zero, suc, ◌≡◌, ◌+◌, ◌<◌, ◌≤◌, List, [], ◌∷◌, ◌++◌, Bool, true, false, Option, Some, None, cond, length, take, reverse, refl, sym, ap, subst, ◌∙◌, arith, inl, inr, get_or, add-one}
use Rattle.std.specs.Prelude.{slice_get, find, MatchOption}
use Rattle.std.proofs.lemmas.List.{take_more, reverse-append}
use Rattle.std.proofs.lemmas.Option.{slice_get_within, get_or_from_slice_get, slice_get_cases}
use Rattle.std.proofs.Math.Nat.{eq-or-lt_of_le}
use Rattle.schemas.specs.Places.{last_passing}
use Rattle.schemas.proofs.PlaceLemmas.{some_injective}

-- y stands before the place n, passes the test, and is the last that does
pub record IsLastBefore {E : Type 0} (test : E → Bool) (xs : List E) (n : ℕ) (y : E) : Type 0 where
  pub place : ℕ
  pub before : place < n
  pub stands : slice_get xs place ≡ Some y
  pub passes : test y ≡ true
  pub none_between : (k : ℕ) (z : E) → place < k → k < n → slice_get xs k ≡ Some z → test z ≡ false

abbrev pub NonePasses : {E : Type 0} → (E → Bool) → List E → ℕ → Type 0
NonePasses {E} test xs n = (k : ℕ) (z : E) → k < n → slice_get xs k ≡ Some z → test z ≡ false

abbrev pub IsLast : {E : Type 0} → (E → Bool) → List E → ℕ → Option E → Type 0
IsLast test xs n found = MatchOption found (NonePasses test xs n) (IsLastBefore test xs n)

-- the entry at a place within the list
pub entry_at : {E : Type 0} (xs : List E) (n : ℕ) → n < length xs → (x : E) × (slice_get xs n ≡ Some x)
entry_at xs n h = elim ((slice_get_cases xs n).1) [
  | inl found ↦ (found.0, found.2)
  | inr past ↦ absurd (let p : length xs ≤ n = past.0 in omega arith)
]

pub last_passing-more : {E : Type 0} (test : E → Bool) (xs : List E) (n : ℕ) (x : E) → slice_get xs n ≡ Some x → last_passing test (take (n + 1) xs) ≡ cond (test x) (Some x) (last_passing test (take n xs))
last_passing-more {E} test xs n x stands =
    let within : n < length xs = slice_get_within xs n x stands in
    let read : get_or xs n x ≡ x = get_or_from_slice_get xs n x x stands in
    let more : take (n + 1) xs ≡ take n xs ++ x ∷ [] = take_more xs n x within ∙ ap (λ (z : E). take n xs ++ z ∷ []) read in
    let turned : reverse (take (n + 1) xs) ≡ x ∷ reverse (take n xs) = ap reverse more ∙ reverse-append (take n xs) (x ∷ []) in
    ap (find test) turned

is_last_step : {E : Type 0} (test : E → Bool) (xs : List E) (n : ℕ) (x : E) (found : Option E) (b : Bool) → slice_get xs n ≡ Some x → test x ≡ b → IsLast test xs n found → IsLast test xs (n + 1) (cond b (Some x) found)
is_last_step {E} test xs n x found true stands e h = record {
  place = n;
  before = omega arith;
  stands = stands;
  passes = e;
  none_between = λ (k : ℕ) (z : E) (low : n < k) (high : k < n + 1) (s : slice_get xs k ≡ Some z). absurd (omega arith);
}
is_last_step {E} test xs n x None false stands e h = λ (k : ℕ) (z : E) (below : k < n + 1) (s : slice_get xs k ≡ Some z).
    let at_most : k ≤ n = omega arith in
    elim (eq-or-lt_of_le at_most) [
      | inr less ↦ h k z less s
      | inl same ↦ subst (λ (w : E). test w ≡ false) (some_injective x z (sym stands ∙ subst (λ (m : ℕ). slice_get xs m ≡ Some z) same s)) e
    ]
is_last_step {E} test xs n x (Some y) false stands e h = record {
  place = h.place;
  before = (let b : h.place < n = h.before in omega arith);
  stands = h.stands;
  passes = h.passes;
  none_between = λ (k : ℕ) (z : E) (low : h.place < k) (high : k < n + 1) (s : slice_get xs k ≡ Some z).
      let at_most : k ≤ n = omega arith in
      elim (eq-or-lt_of_le at_most) [
        | inr less ↦ h.none_between k z low less s
        | inl same ↦ subst (λ (w : E). test w ≡ false) (some_injective x z (sym stands ∙ subst (λ (m : ℕ). slice_get xs m ≡ Some z) same s)) e
      ];
}

-- what the last of the first n entries that passes is
pub last_passing_is : {E : Type 0} (test : E → Bool) (xs : List E) (n : ℕ) → n ≤ length xs → IsLast test xs n (last_passing test (take n xs))
last_passing_is {E} test xs zero h = λ (k : ℕ) (z : E) (below : k < 0) (s : slice_get xs k ≡ Some z). absurd (omega arith)
last_passing_is {E} test xs (suc n) h =
    let within : n < length xs = omega arith in
    let at = entry_at xs n within in
    let before : n ≤ length xs = omega arith in
    let step = is_last_step test xs n at.0 (last_passing test (take n xs)) (test at.0) at.1 refl (last_passing_is test xs n before) in
    subst (λ (m : ℕ). IsLast test xs m (last_passing test (take m xs))) (add-one n) (subst (IsLast test xs (n + 1)) (sym (last_passing-more test xs n at.0 at.1)) step)
