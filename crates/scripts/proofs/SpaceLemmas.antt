-- A text is cut at its first space in one way; words at the front of a line.
use Rattle.std.proofs.Common.{◌≡◌, ◌⊎◌, inl, inr, ℕ, suc, IsTrue, ◌+◌, ◌%◌, ◌<◌, ◌^◌, ◌==◌, List, [], ◌∷◌, ◌++◌, All, Bool, true, false, Option, Some, None, Bor, length, take, drop, cond, refl, sym, ◌∙◌, ap, subst, arith, rules, tests, decimal}
use Rattle.std.specs.Prelude.{◌≢◌, MatchOption, IfSome, IfNone}
use Rattle.std.specs.List.{AllByRecursion, position, position_from}
use Rattle.std.specs.Str.{bytes_eq}
use Rattle.std.proofs.lemmas.List.{append_cancel_left, take-append-drop, take_at}
use Rattle.std.proofs.lemmas.List.Elements.{recursion_from_All, All-from_recursion}
use Rattle.std.proofs.lemmas.Iterator.Adapters.{position_from-zero}
use Rattle.std.proofs.lemmas.Slice.Eq.{bytes_eq-Decides}
use Rattle.std.proofs.lemmas.Bool.{false≢true}
use Rattle.std.proofs.lemmas.Fmt.{decimal_by_steps, decimal_injective}
use Rattle.scripts.specs.Writing.{numbered}

abbrev pub IsPlain : List ℕ → Type 0
IsPlain text = AllByRecursion (λ c. c ≢ 32) text

-- ---- one cut

cut_once : (a b x y : List ℕ) → IsPlain a → IsPlain b → a ++ 32 ∷ x ≡ b ++ 32 ∷ y → (a ≡ b) × (x ≡ y)
cut_once [] [] x y p q e = (refl, (let same : 32 ∷ x ≡ 32 ∷ y = e in cc))
cut_once [] (c ∷ b) x y p q e = absurd (q.0 (let same : 32 ∷ x ≡ c ∷ (b ++ 32 ∷ y) = e in let head : 32 ≡ c = cc in sym head))
cut_once (c ∷ a) [] x y p q e = absurd (p.0 (let same : c ∷ (a ++ 32 ∷ x) ≡ 32 ∷ y = e in let head : c ≡ 32 = cc in head))
cut_once (c ∷ a) (d ∷ b) x y p q e =
    let same : c ∷ (a ++ 32 ∷ x) ≡ d ∷ (b ++ 32 ∷ y) = e in
    let head : c ≡ d = cc in
    let tail : a ++ 32 ∷ x ≡ b ++ 32 ∷ y = cc in
    let rest = cut_once a b x y p.1 q.1 tail in
    ((let first : a ≡ b = rest.0 in cc), rest.1)

plain_push : (ds : List ℕ) (x : ℕ) → IsPlain ds → x ≢ 32 → IsPlain (ds ++ x ∷ [])
plain_push [] x plain apart = (apart, tt)
plain_push (d ∷ ds) x plain apart = (plain.0, plain_push ds x plain.1 apart)

no_space : (n : ℕ) → 48 + n ≢ 32
no_space n e = omega arith

-- no space stands in a decimal number
plain_decimal : (n : ℕ) → n < 2 ^ 64 → IsPlain (decimal n)
plain_decimal n small = decimal_by_steps (λ m ds. IsPlain ds) (λ m low. (no_space m, tt)) (λ m ds big plain. plain_push ds (48 + m % 10) plain (no_space (m % 10))) n small

-- a text is one number and one rest
pub numbered_once : (c d : ℕ) (x y : List ℕ) → c < 2 ^ 32 → d < 2 ^ 32 → numbered c x ≡ numbered d y → (c ≡ d) × (x ≡ y)
numbered_once c d x y small low e =
    let cut = cut_once (decimal c) (decimal d) x y (plain_decimal c (omega arith)) (plain_decimal d (omega arith)) e in
    (decimal_injective c d (omega arith) (omega arith) cut.0, cut.1)

-- a text that is cut at its first space is numbered only where the number stands there
pub numbered_cut : (text digits rest : List ℕ) → text ≡ digits ++ 32 ∷ rest → All (λ c. c ≢ 32) digits → (c : ℕ) (behind : List ℕ) → c < 2 ^ 32 → text ≡ numbered c behind → digits ≡ decimal c
numbered_cut text digits rest whole plain c behind small e =
    (cut_once digits (decimal c) rest behind (recursion_from_All (λ c. c ≢ 32) digits plain) (plain_decimal c (omega arith)) (sym whole ∙ e)).0

middle : (xs : List ℕ) (ys : List ℕ) → IsPlain (xs ++ 32 ∷ ys) → ⊥
middle [] ys h = h.0 refl
middle (x ∷ xs) ys h = middle xs ys h.1

-- and one without a space isn't numbered
pub not_numbered : (text : List ℕ) → All (λ c. c ≢ 32) text → (c : ℕ) (behind : List ℕ) → text ≡ numbered c behind → ⊥
not_numbered text plain c behind e = middle (decimal c) behind (subst IsPlain e (recursion_from_All (λ c. c ≢ 32) text plain))

-- ---- the first space

place_cases : (x : ℕ) (xs : List ℕ) (i n : ℕ) (b : Bool) → (x == 32) ≡ b → cond b (Some i) (position_from (λ c. c == 32) (i + 1) xs) ≡ Some n
    → ((x ≡ 32) × (n ≡ i)) ⊎ ((x ≢ 32) × (position_from (λ c. c == 32) (i + 1) xs ≡ Some n))
place_cases x xs i n true is e = inl ((let h : IsTrue (x == 32) = is in search (rules, tests)), (let same : Some i ≡ Some n = e in cc))
place_cases x xs i n false is e = inr ((let h : (x == 32) ≡ false = is in search (rules, tests)), e)

place_of : (xs : List ℕ) (i n : ℕ) → position_from (λ c. c == 32) i xs ≡ Some n
    → (k : ℕ) × (n ≡ i + k) × IsPlain (take k xs) × (drop k xs ≡ 32 ∷ drop (k + 1) xs)
place_of [] i n e = absurd (let clash : None ≡ Some n = e in cc)
place_of (x ∷ xs) i n e = elim (place_cases x xs i n (x == 32) refl e) [
  | inl here ↦ (0, (let at : n ≡ i = here.1 in omega (arith, at)), tt, ap (λ y. y ∷ xs) here.0)
  | inr later ↦
      let rest = place_of xs (i + 1) n later.1 in
      let behind : suc rest.0 + 1 ≡ suc (rest.0 + 1) = omega arith in
      (suc rest.0, (let at : n ≡ i + 1 + rest.0 = rest.1 in omega (arith, at)), (later.0, rest.2), rest.3 ∙ ap (λ (k : ℕ). 32 ∷ drop k (x ∷ xs)) (sym behind))
]

none_cases : (x : ℕ) (xs : List ℕ) (i : ℕ) (b : Bool) → (x == 32) ≡ b → cond b (Some i) (position_from (λ c. c == 32) (i + 1) xs) ≡ None
    → (x ≢ 32) × (position_from (λ c. c == 32) (i + 1) xs ≡ None)
none_cases x xs i true is e = absurd (let clash : Some i ≡ None = e in cc)
none_cases x xs i false is e = ((let h : (x == 32) ≡ false = is in search (rules, tests)), e)

no_place_of : (xs : List ℕ) (i : ℕ) → position_from (λ c. c == 32) i xs ≡ None → IsPlain xs
no_place_of [] i e = tt
no_place_of (x ∷ xs) i e = let rest = none_cases x xs i (x == 32) refl e in (rest.0, no_place_of xs (i + 1) rest.1)

pub around_space : (text front rest : List ℕ) (at : ℕ) → Some at ≡ position (λ c. c == 32) text → front ≡ take at text → rest ≡ drop (at + 1) text
    → (text ≡ front ++ 32 ∷ rest) × All (λ c. c ≢ 32) front
around_space text front rest at e is behind =
    let found = place_of text 0 at (sym (e ∙ position_from-zero (λ c. c == 32) text)) in
    let here : found.0 ≡ at = (let h : at ≡ 0 + found.0 = found.1 in omega (arith, h)) in
    let cut : drop at text ≡ 32 ∷ rest = subst (λ (k : ℕ). drop k text ≡ 32 ∷ drop (k + 1) text) here found.3 ∙ ap (λ r. 32 ∷ r) (sym behind) in
    let whole : text ≡ take at text ++ 32 ∷ rest = sym (take-append-drop at text) ∙ ap (λ s. take at text ++ s) cut in
    let plain : IsPlain front = subst IsPlain (ap (λ (n : ℕ). take n text) here ∙ sym is) found.2 in
    (whole ∙ ap (λ s. s ++ 32 ∷ rest) (sym is), All-from_recursion (λ c. c ≢ 32) front plain)

pub without_space : (text : List ℕ) → None ≡ position (λ c. c == 32) text → All (λ c. c ≢ 32) text
without_space text e = All-from_recursion (λ c. c ≢ 32) text (no_place_of text 0 (sym (e ∙ position_from-zero (λ c. c == 32) text)))

-- ---- words

pub word_behind : (line word rest : List ℕ) → bytes_eq (take (length word) line) word ≡ true → rest ≡ drop (length word) line → line ≡ word ++ rest
word_behind line word rest same is =
    sym (take-append-drop (length word) line)
    ∙ ap (λ w. w ++ drop (length word) line) ((bytes_eq-Decides (take (length word) line) word).0 same)
    ∙ ap (λ r. word ++ r) (sym is)

pub no_word : (line word rest : List ℕ) → bytes_eq (take (length word) line) word ≡ false → line ≡ word ++ rest → ⊥
no_word line word rest apart e =
    let front : take (length word) line ≡ word = ap (λ l. take (length word) l) e ∙ take_at word rest (length word) refl in
    false≢true (sym apart ∙ (bytes_eq-Decides (take (length word) line) word).1 front)

pub behind_some : (r : Option (Bor (List ℕ))) (line word : List ℕ)
    → MatchOption r (bytes_eq (take (length word) line) word ≡ false) (λ x. (bytes_eq (take (length word) line) word ≡ true) × (x.now ≡ drop (length word) line) × (length x.now + length word ≡ length line))
    → IfSome r (λ rest. line ≡ word ++ rest.now)
behind_some None line word h = tt
behind_some (Some x) line word h = word_behind line word x.now h.0 h.1

pub behind_none : (r : Option (Bor (List ℕ))) (line word : List ℕ)
    → MatchOption r (bytes_eq (take (length word) line) word ≡ false) (λ x. (bytes_eq (take (length word) line) word ≡ true) × (x.now ≡ drop (length word) line) × (length x.now + length word ≡ length line))
    → IfNone r ((rest : List ℕ) → line ≢ word ++ rest)
behind_none None line word h = λ rest e. no_word line word rest h e
behind_none (Some x) line word h = tt

-- a line that begins with a word, and isn't numbered behind it
pub none_behind : {A : Type 0} (r : Option A) (line word text : List ℕ) → line ≡ word ++ text
    → IfNone r ((c : ℕ) (rest : List ℕ) → c < 2 ^ 32 → text ≢ numbered c rest)
    → IfNone r ((c : ℕ) (rest : List ℕ) → c < 2 ^ 32 → line ≢ word ++ numbered c rest)
none_behind None line word text whole h = λ c rest small e. h c rest small (append_cancel_left word text (numbered c rest) (sym whole ∙ e))
none_behind (Some x) line word text whole h = tt
