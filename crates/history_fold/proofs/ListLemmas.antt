-- Lists of what passes a test: the first, and the last, of those that pass another.
use Rattle.std.proofs.Common.{ℕ, ◌≡◌, ◌+◌, ◌<◌, length, take, get_or, List, [], ◌∷◌, ◌++◌, Bool, true, false, Option, Some, None, cond, filter, Contains, reverse, refl, sym, ap, subst, ◌∙◌, inl, inr}
use Rattle.std.specs.Prelude.{find, All, IfSome}
use Rattle.std.specs.List.{AllByRecursion}
use Rattle.std.specs.Option.{option_or}
use Rattle.std.proofs.lemmas.Bool.{cases_Bool, cond-true, cond-false, false≢true, false_from_ne_true}
use Rattle.std.proofs.lemmas.List.{append-nil, reverse-append, take_more}
use Rattle.std.proofs.lemmas.List.Elements.{All-weaker, All-contains_itself, filter-append}
use Rattle.basis.proofs.FilterLemmas.{filter-push, filter-push_not}
use Rattle.history_cut.proofs.KeptLemmas.{kept_head, left_head, last_of_more}
use Rattle.schemas.specs.Places.{last_passing}
use Rattle.schemas.proofs.PlaceLemmas.{some_injective}

-- ---- the first

pub find_kept : {E : Type 0} (p q : E → Bool) (xs : List E) → ((x : E) → p x ≡ true → q x ≡ true) → find p (filter q xs) ≡ find p xs
find_kept p q [] wider = refl
find_kept {E} p q (x ∷ xs) wider = elim (cases_Bool (q x)) [
  | inl passes ↦ ap (find p) (kept_head q x xs passes) ∙ ap (λ (o : Option E). cond (p x) (Some x) o) (find_kept p q xs wider)
  | inr fails ↦
      ap (find p) (left_head q x xs fails) ∙ find_kept p q xs wider
      ∙ sym (cond-false (p x) (Some x) (find p xs) (false_from_ne_true (p x) (λ yes. false≢true (sym fails ∙ wider x yes))))
]

pub find_left : {E : Type 0} (p q : E → Bool) (xs : List E) → ((x : E) → p x ≡ true → q x ≡ false) → find p (filter q xs) ≡ None
find_left p q [] apart = refl
find_left {E} p q (x ∷ xs) apart = elim (cases_Bool (q x)) [
  | inl passes ↦
      ap (find p) (kept_head q x xs passes)
      ∙ cond-false (p x) (Some x) (find p (filter q xs)) (false_from_ne_true (p x) (λ yes. false≢true (sym (apart x yes) ∙ passes)))
      ∙ find_left p q xs apart
  | inr fails ↦ ap (find p) (left_head q x xs fails) ∙ find_left p q xs apart
]

find_stays : {E : Type 0} (test p : E → Bool) (ws : List E) (y : E) → find test ws ≡ Some y → p y ≡ true → find test (filter p ws) ≡ Some y
find_stays test p [] y is passes = absurd (let e : None ≡ Some y = is in cc)
find_stays {E} test p (w ∷ ws) y is passes = elim (cases_Bool (test w)) [
  | inl found ↦
      let same : w ≡ y = some_injective w y (sym (cond-true (test w) (Some w) (find test ws) found) ∙ is) in
      ap (find test) (kept_head p w ws (ap p same ∙ passes)) ∙ cond-true (test w) (Some w) (find test (filter p ws)) found ∙ ap (λ (v : E). Some v) same
  | inr other ↦
      let later : find test (filter p ws) ≡ Some y = find_stays test p ws y (sym (cond-false (test w) (Some w) (find test ws) other) ∙ is) passes in
      elim (cases_Bool (p w)) [
        | inl kept ↦ ap (find test) (kept_head p w ws kept) ∙ cond-false (test w) (Some w) (find test (filter p ws)) other ∙ later
        | inr left ↦ ap (find test) (left_head p w ws left) ∙ later
      ]
]

-- ---- the last

filter_reverse : {E : Type 0} (p : E → Bool) (zs : List E) → filter p (reverse zs) ≡ reverse (filter p zs)
filter_reverse p [] = refl
filter_reverse {E} p (z ∷ zs) =
    let front : filter p (reverse (z ∷ zs)) ≡ reverse (filter p zs) ++ filter p (z ∷ []) =
    ap (filter p) (reverse-append (z ∷ []) zs) ∙ filter-append p (reverse zs) (z ∷ []) ∙ ap (λ (ws : List E). ws ++ filter p (z ∷ [])) (filter_reverse p zs) in
    elim (cases_Bool (p z)) [
      | inl passes ↦
          front ∙ ap (λ (ws : List E). reverse (filter p zs) ++ ws) (kept_head p z [] passes) ∙ sym (reverse-append (z ∷ []) (filter p zs))
          ∙ ap reverse (sym (kept_head p z zs passes))
      | inr fails ↦
          front ∙ ap (λ (ws : List E). reverse (filter p zs) ++ ws) (left_head p z [] fails) ∙ append-nil (reverse (filter p zs))
          ∙ ap reverse (sym (left_head p z zs fails))
    ]

-- the last that passes one test is the last among those that pass another, where it passes that too
pub last_stays : {E : Type 0} (test p : E → Bool) (zs : List E) (y : E) → last_passing test zs ≡ Some y → p y ≡ true → last_passing test (filter p zs) ≡ Some y
last_stays test p zs y is passes = ap (find test) (sym (filter_reverse p zs)) ∙ find_stays test p (reverse zs) y is passes

one_holds : {E : Type 0} (P : E → Type 0) (test : E → Bool) (z : E) → (test z ≡ true → P z) → IfSome (find test (z ∷ [])) P
one_holds {E} P test z here = elim (cases_Bool (test z)) [
  | inl found ↦ subst (λ (o : Option E). IfSome o P) (sym (cond-true (test z) (Some z) None found)) (here found)
  | inr other ↦ subst (λ (o : Option E). IfSome o P) (sym (cond-false (test z) (Some z) None other)) tt
]

either_holds : {E : Type 0} (P : E → Type 0) (found last : Option E) → IfSome found P → IfSome last P → IfSome (option_or found last) P
either_holds P (Some w) last first then = first
either_holds P None last first then = then

-- what holds of each that passes holds of the last
pub last_holds : {E : Type 0} (P : E → Type 0) (test : E → Bool) (zs : List E) → AllByRecursion (λ z. test z ≡ true → P z) zs → IfSome (last_passing test zs) P
last_holds P test [] all = tt
last_holds {E} P test (z ∷ zs) all =
    subst (λ (o : Option E). IfSome o P) (sym (last_of_more test z zs))
    (either_holds P (last_passing test zs) (find test (z ∷ [])) (last_holds P test zs all.1) (one_holds P test z all.0))

-- ---- all

pub all_from : {E : Type 0} (P : E → Type 0) (xs : List E) → ((x : E) → Contains xs x → P x) → All P xs
all_from P xs each = All-weaker (Contains xs) P each xs (All-contains_itself xs)

-- ---- one more

-- what passes of a front, with one element more
pub front_keeps : {E : Type 0} (p : E → Bool) (xs : List E) (i : ℕ) (x : E) (kept new : List E) → i < length xs → get_or xs i x ≡ x → kept ≡ filter p (take i xs)
    → p x ≡ true → new ≡ kept ++ x ∷ [] → new ≡ filter p (take (i + 1) xs)
front_keeps {E} p xs i x kept new within at is passes grows =
    grows ∙ ap (λ ys. ys ++ x ∷ []) is ∙ sym (filter-push p (take i xs) x passes)
    ∙ ap (λ (y : E). filter p (take i xs ++ y ∷ [])) (sym at) ∙ ap (filter p) (sym (take_more xs i x within))

pub front_leaves : {E : Type 0} (p : E → Bool) (xs : List E) (i : ℕ) (x : E) (kept new : List E) → i < length xs → get_or xs i x ≡ x → kept ≡ filter p (take i xs)
    → p x ≡ false → new ≡ kept → new ≡ filter p (take (i + 1) xs)
front_leaves {E} p xs i x kept new within at is fails same =
    same ∙ is ∙ sym (filter-push_not p (take i xs) x fails)
    ∙ ap (λ (y : E). filter p (take i xs ++ y ∷ [])) (sym at) ∙ ap (filter p) (sym (take_more xs i x within))
