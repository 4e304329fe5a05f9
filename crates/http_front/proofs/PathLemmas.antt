-- A path is cut into segments in one way.
use Rattle.std.proofs.Common.{◌≡◌, ◌⊎◌, inl, inr, ℕ, suc, IsTrue, ◌+◌, ◌==◌, List, [], ◌∷◌, ◌++◌, All, Bool, true, false, Some, None, length, take, drop, cond, refl, sym, ◌∙◌, ap, subst, arith, rules, tests}
use Rattle.std.specs.Prelude.{◌≢◌}
use Rattle.std.specs.List.{AllByRecursion, position, position_from}
use Rattle.std.proofs.lemmas.List.Elements.{recursion_from_All, All-from_recursion}
use Rattle.std.proofs.lemmas.Iterator.Adapters.{position_from-zero}
use Rattle.std.proofs.lemmas.Slice.Eq.{bytes_eq-Decides}
use Rattle.std.proofs.lemmas.Bool.{false≢true}
use Rattle.std.specs.Str.{bytes_eq}
use Rattle.http_front.specs.Paths.{slash, path_of, IsSegment, EndsSegment, IsNextSegment}

abbrev pub IsPlain : List ℕ → Type 0
IsPlain text = AllByRecursion (λ c. c ≢ slash) text

cut_once : (a b x y : List ℕ) → IsPlain a → IsPlain b → EndsSegment x → EndsSegment y → a ++ x ≡ b ++ y → (a ≡ b) × (x ≡ y)
cut_once [] [] x y p q ex ey e = (refl, e)
cut_once [] (c ∷ b) [] y p q ex ey e = absurd (let clash : [] ≡ c ∷ (b ++ y) = e in cc)
cut_once [] (c ∷ b) (d ∷ x) y p q ex ey e = absurd (q.0 (let same : d ∷ x ≡ c ∷ (b ++ y) = e in let head : c ≡ d = cc in head ∙ ex))
cut_once (c ∷ a) [] x [] p q ex ey e = absurd (let clash : c ∷ (a ++ x) ≡ [] = e in cc)
cut_once (c ∷ a) [] x (d ∷ y) p q ex ey e = absurd (p.0 (let same : c ∷ (a ++ x) ≡ d ∷ y = e in let head : c ≡ d = cc in head ∙ ey))
cut_once (c ∷ a) (d ∷ b) x y p q ex ey e =
    let same : c ∷ (a ++ x) ≡ d ∷ (b ++ y) = e in
    let head : c ≡ d = cc in
    let tail : a ++ x ≡ b ++ y = cc in
    let rest = cut_once a b x y p.1 q.1 ex ey tail in
    ((let first : a ≡ b = rest.0 in cc), rest.1)

-- a path has one first segment, and one rest
pub next_once : (path a x b y : List ℕ) → IsNextSegment path a x → IsNextSegment path b y → (a ≡ b) × (x ≡ y)
next_once path a x b y h k =
    let same : slash ∷ (a ++ x) ≡ slash ∷ (b ++ y) = sym h.whole ∙ k.whole in
    let tail : a ++ x ≡ b ++ y = cc in
    cut_once a b x y (recursion_from_All (λ c. c ≢ slash) a h.lawful.plain) (recursion_from_All (λ c. c ≢ slash) b k.lawful.plain) h.ends k.ends tail

ends_path : (segments : List (List ℕ)) → EndsSegment (path_of segments)
ends_path [] = tt
ends_path (s ∷ ss) = refl

-- the first of the segments is the first segment of their path
pub next_of_path : (path s : List ℕ) (ss : List (List ℕ)) → IsSegment s → path ≡ path_of (s ∷ ss) → IsNextSegment path s (path_of ss)
next_of_path path s ss lawful whole = record { lawful = lawful; whole = whole; ends = ends_path ss }

-- segments have one path, and a path has one list of segments
pub segments_once : (a b : List (List ℕ)) → AllByRecursion IsSegment a → AllByRecursion IsSegment b → path_of a ≡ path_of b → a ≡ b
segments_once [] [] p q e = refl
segments_once [] (t ∷ b) p q e = absurd (let clash : [] ≡ slash ∷ (t ++ path_of b) = e in cc)
segments_once (s ∷ a) [] p q e = absurd (let clash : slash ∷ (s ++ path_of a) ≡ [] = e in cc)
segments_once (s ∷ a) (t ∷ b) p q e =
    let once = next_once (path_of (s ∷ a)) s (path_of a) t (path_of b) (next_of_path (path_of (s ∷ a)) s a p.0 refl) (next_of_path (path_of (s ∷ a)) t b q.0 e) in
    let first : s ≡ t = once.0 in
    let later : a ≡ b = segments_once a b p.1 q.1 once.1 in
    cc

place_cases : (x : ℕ) (xs : List ℕ) (i n : ℕ) (b : Bool) → (x == slash) ≡ b → cond b (Some i) (position_from (λ c. c == slash) (i + 1) xs) ≡ Some n
    → ((x ≡ slash) × (n ≡ i)) ⊎ ((x ≢ slash) × (position_from (λ c. c == slash) (i + 1) xs ≡ Some n))
place_cases x xs i n true is e = inl ((let h : IsTrue (x == slash) = is in search (rules, tests)), (let same : Some i ≡ Some n = e in cc))
place_cases x xs i n false is e = inr ((let h : (x == slash) ≡ false = is in search (rules, tests)), e)

-- before the first slash stands none, and a slash at its place
pub place_of : (xs : List ℕ) (i n : ℕ) → position_from (λ c. c == slash) i xs ≡ Some n
    → (k : ℕ) × (n ≡ i + k) × IsPlain (take k xs) × EndsSegment (drop k xs)
place_of [] i n e = absurd (let clash : None ≡ Some n = e in cc)
place_of (x ∷ xs) i n e = elim (place_cases x xs i n (x == slash) refl e) [
  | inl here ↦ (0, (let at : n ≡ i = here.1 in omega (arith, at)), tt, here.0)
  | inr later ↦ let rest = place_of xs (i + 1) n later.1 in (suc rest.0, (let at : n ≡ i + 1 + rest.0 = rest.1 in omega (arith, at)), (later.0, rest.2), rest.3)
]

none_cases : (x : ℕ) (xs : List ℕ) (i : ℕ) (b : Bool) → (x == slash) ≡ b → cond b (Some i) (position_from (λ c. c == slash) (i + 1) xs) ≡ None
    → (x ≢ slash) × (position_from (λ c. c == slash) (i + 1) xs ≡ None)
none_cases x xs i true is e = absurd (let clash : Some i ≡ None = e in cc)
none_cases x xs i false is e = ((let h : (x == slash) ≡ false = is in search (rules, tests)), e)

pub no_place_of : (xs : List ℕ) (i : ℕ) → position_from (λ c. c == slash) i xs ≡ None → IsPlain xs
no_place_of [] i e = tt
no_place_of (x ∷ xs) i e = let rest = none_cases x xs i (x == slash) refl e in (rest.0, no_place_of xs (i + 1) rest.1)

pub before_slash : (text front : List ℕ) (at : ℕ) → Some at ≡ position (λ c. c == slash) text → front ≡ take at text → All (λ c. c ≢ slash) front
before_slash text front at e is =
    let found = place_of text 0 at (sym (e ∙ position_from-zero (λ c. c == slash) text)) in
    let here : at ≡ found.0 = (let h : at ≡ 0 + found.0 = found.1 in omega (arith, h)) in
    All-from_recursion (λ c. c ≢ slash) front (subst IsPlain (ap (λ (n : ℕ). take n text) (sym here) ∙ sym is) found.2)

pub from_slash : (text rest : List ℕ) (at : ℕ) → Some at ≡ position (λ c. c == slash) text → rest ≡ drop at text → EndsSegment rest
from_slash text rest at e is =
    let found = place_of text 0 at (sym (e ∙ position_from-zero (λ c. c == slash) text)) in
    let here : at ≡ found.0 = (let h : at ≡ 0 + found.0 = found.1 in omega (arith, h)) in
    subst EndsSegment (ap (λ (n : ℕ). drop n text) (sym here) ∙ sym is) found.3

pub without_slash : (text : List ℕ) → None ≡ position (λ c. c == slash) text → All (λ c. c ≢ slash) text
without_slash text e = All-from_recursion (λ c. c ≢ slash) text (no_place_of text 0 (sym (e ∙ position_from-zero (λ c. c == slash) text)))

-- texts that compare equal are the same
pub is_word : (a b word : List ℕ) (r : Bool) → r ≡ bytes_eq a b → b ≡ word → r ≡ true → a ≡ word
is_word a b word r e is holds = (bytes_eq-Decides a b).0 (sym e ∙ holds) ∙ is

pub not_word : (a b word : List ℕ) (r : Bool) → r ≡ bytes_eq a b → b ≡ word → r ≡ false → a ≡ word → ⊥
not_word a b word r e is other same = false≢true (sym other ∙ e ∙ (bytes_eq-Decides a b).1 (same ∙ sym is))

pub is_empty_list : (xs : List ℕ) (r : Bool) → r ≡ (length xs == 0) → r ≡ true → xs ≡ []
is_empty_list [] r e holds = refl
is_empty_list (x ∷ xs) r e holds = absurd (let h : (length (x ∷ xs) == 0) ≡ true = sym e ∙ holds in let zero : length (x ∷ xs) ≡ 0 = search (rules, tests) in omega (arith, zero))
