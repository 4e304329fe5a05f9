-- The entries of a list that pass a test, against the whole list.
use Rattle.std.proofs.Common.{ℕ, zero, suc, ◌≡◌, ◌<◌, ◌≤◌, List, [], ◌∷◌, Bool, true, false, Option, Some, None, cond, filter, length, take, reverse, refl, sym, ap, subst, ◌∙◌, arith, inl, inr, get_or}
use Rattle.std.specs.Prelude.{slice_get, find, All, Any}
use Rattle.std.specs.List.{AllByRecursion, AllPairs}
use Rattle.std.specs.Option.{option_or}
use Rattle.std.proofs.lemmas.Bool.{cases_Bool, cond-true, cond-false, false≢true}
use Rattle.std.proofs.lemmas.List.{reverse-append}
use Rattle.std.proofs.lemmas.List.Folds.{find-append}
use Rattle.std.proofs.lemmas.Option.{slice_get_within, get_or_from_slice_get}
use Rattle.basis.proofs.ElementLemmas.{Any-from}
use Rattle.basis.proofs.FilterLemmas.{Contains-filter}
use Rattle.schemas.specs.Places.{Each, last_passing}
use Rattle.schemas.proofs.PlaceLemmas.{some_injective}
use Rattle.schemas.proofs.PreviousLemmas.{entry_at}

-- the entry at the place i of those that pass stands in the whole list, and before it there stand those that pass before it here
pub record StandsIn {E : Type 0} (p : E → Bool) (xs : List E) (i : ℕ) (x : E) : Type 0 where
  pub place : ℕ
  pub stands : slice_get xs place ≡ Some x
  pub passes : p x ≡ true
  pub earlier : take i (filter p xs) ≡ filter p (take place xs)

pub kept_head : {E : Type 0} (p : E → Bool) (y : E) (ys : List E) → p y ≡ true → filter p (y ∷ ys) ≡ y ∷ filter p ys
kept_head p y ys e = cond-true (p y) (y ∷ filter p ys) (filter p ys) e

pub left_head : {E : Type 0} (p : E → Bool) (y : E) (ys : List E) → p y ≡ false → filter p (y ∷ ys) ≡ filter p ys
left_head p y ys e = cond-false (p y) (y ∷ filter p ys) (filter p ys) e

first_kept : {E : Type 0} (p : E → Bool) (y : E) (ys : List E) (x : E) → p y ≡ true → Some y ≡ Some x → StandsIn p (y ∷ ys) 0 x
first_kept p y ys x e h = record { place = 0; stands = h; passes = subst (λ z. p z ≡ true) (some_injective y x h) e; earlier = refl }

behind_kept : {E : Type 0} (p : E → Bool) (y : E) (ys : List E) (i : ℕ) (x : E) → p y ≡ true → StandsIn p ys i x → StandsIn p (y ∷ ys) (suc i) x
behind_kept {E} p y ys i x e s = record {
  place = suc s.place;
  stands = s.stands;
  passes = s.passes;
  earlier = ap (take (suc i)) (kept_head p y ys e) ∙ ap (λ (zs : List E). y ∷ zs) s.earlier ∙ sym (kept_head p y (take s.place ys) e);
}

behind_left : {E : Type 0} (p : E → Bool) (y : E) (ys : List E) (i : ℕ) (x : E) → p y ≡ false → StandsIn p ys i x → StandsIn p (y ∷ ys) i x
behind_left p y ys i x e s = record {
  place = suc s.place;
  stands = s.stands;
  passes = s.passes;
  earlier = ap (take i) (left_head p y ys e) ∙ s.earlier ∙ sym (left_head p y (take s.place ys) e);
}

pub stands_in : {E : Type 0} (p : E → Bool) (xs : List E) (i : ℕ) (x : E) → slice_get (filter p xs) i ≡ Some x → StandsIn p xs i x
stands_in {E} p [] i x h = absurd (let e : None ≡ Some x = h in cc)
stands_in {E} p (y ∷ ys) zero x h = elim (cases_Bool (p y)) [
  | inl passes ↦ first_kept p y ys x passes (subst (λ (zs : List E). slice_get zs 0 ≡ Some x) (kept_head p y ys passes) h)
  | inr fails ↦ behind_left p y ys 0 x fails (stands_in p ys 0 x (subst (λ (zs : List E). slice_get zs 0 ≡ Some x) (left_head p y ys fails) h))
]
stands_in {E} p (y ∷ ys) (suc i) x h = elim (cases_Bool (p y)) [
  | inl passes ↦ behind_kept p y ys i x passes (stands_in p ys i x (subst (λ (zs : List E). slice_get zs (suc i) ≡ Some x) (kept_head p y ys passes) h))
  | inr fails ↦ behind_left p y ys (suc i) x fails (stands_in p ys (suc i) x (subst (λ (zs : List E). slice_get zs (suc i) ≡ Some x) (left_head p y ys fails) h))
]

-- a rule of each entry of the whole list gives one of each that passes
pub each_kept : {E : Type 0} (Keeps Gives : List E → E → Type 0) (p : E → Bool) (xs : List E)
    → ((j : ℕ) (x : E) → slice_get xs j ≡ Some x → p x ≡ true → Keeps (take j xs) x → Gives (filter p (take j xs)) x) → Each Keeps xs → Each Gives (filter p xs)
each_kept {E} Keeps Gives p xs step all = λ (i : ℕ) (x : E) (stands : slice_get (filter p xs) i ≡ Some x).
    let s : StandsIn p xs i x = stands_in p xs i x stands in
    subst (λ (zs : List E). Gives zs x) (sym s.earlier) (step s.place x s.stands s.passes (all s.place x s.stands))

-- what holds of each entry that passes, where it stands in the whole list
pub all_kept : {E : Type 0} (P : E → Type 0) (p : E → Bool) (xs : List E) → ((j : ℕ) (x : E) → slice_get xs j ≡ Some x → p x ≡ true → P x) → All P (filter p xs)
all_kept {E} P p xs each = λ (k : ℕ) (d : E) (within : k < length (filter p xs)).
    let at = entry_at (filter p xs) k within in
    let s : StandsIn p xs k at.0 = stands_in p xs k at.0 at.1 in
    subst P (sym (get_or_from_slice_get (filter p xs) k at.0 d at.1)) (each s.place at.0 s.stands s.passes)

-- what holds of each entry before a place
pub all_before : {E : Type 0} (P : E → Type 0) (xs : List E) (j : ℕ) → ((k : ℕ) (y : E) → k < j → slice_get xs k ≡ Some y → P y) → AllByRecursion P (take j xs)
all_before P xs zero each = tt
all_before P [] (suc j) each = tt
all_before {E} P (x ∷ xs) (suc j) each = (each 0 x (omega arith) refl, all_before P xs j (λ (k : ℕ) (y : E) (less : k < j) (stands : slice_get xs k ≡ Some y). each (suc k) y (omega arith) stands))

pub last_of_more : {E : Type 0} (test : E → Bool) (z : E) (zs : List E) → last_passing test (z ∷ zs) ≡ option_or (last_passing test zs) (find test (z ∷ []))
last_of_more test z zs = ap (find test) (reverse-append (z ∷ []) zs) ∙ find-append test (reverse zs) (z ∷ [])

or_none : {E : Type 0} (o : Option E) → option_or o None ≡ o
or_none None = refl
or_none (Some x) = refl

-- the last that passes one test is the same among those that pass another, which passes it
pub last_kept : {E : Type 0} (test p : E → Bool) (zs : List E) → AllByRecursion (λ z. test z ≡ true → p z ≡ true) zs → last_passing test (filter p zs) ≡ last_passing test zs
last_kept test p [] all = refl
last_kept {E} test p (z ∷ zs) all = elim (cases_Bool (p z)) [
  | inl passes ↦
      ap (last_passing test) (kept_head p z zs passes) ∙ last_of_more test z (filter p zs)
      ∙ ap (λ (o : Option E). option_or o (find test (z ∷ []))) (last_kept test p zs all.1) ∙ sym (last_of_more test z zs)
  | inr fails ↦ elim (cases_Bool (test z)) [
    | inl found ↦ absurd (false≢true (sym fails ∙ all.0 found))
    | inr other ↦
        ap (last_passing test) (left_head p z zs fails) ∙ last_kept test p zs all.1
        ∙ sym (last_of_more test z zs ∙ ap (λ (o : Option E). option_or (last_passing test zs) o) (cond-false (test z) (Some z) None other) ∙ or_none (last_passing test zs))
  ]
]

-- some entry that passes
pub any_kept : {E : Type 0} (P : E → Type 0) (p : E → Bool) (xs : List E) → ((x : E) → P x → p x ≡ true) → Any P xs → Any P (filter p xs)
any_kept P p xs passes any = Any-from P (filter p xs) any.1 (Contains-filter p xs any.1 (any.0, any.2, any.3) (passes any.1 any.4)) any.4

more_both : {E : Type 0} (b : Bool) (z : E) (us vs : List E) → length us ≤ length vs → length (cond b (z ∷ us) us) ≤ length (cond b (z ∷ vs) vs)
more_both true z us vs h = omega arith
more_both false z us vs h = h

more_one : {E : Type 0} (b : Bool) (z : E) (us vs : List E) → length us ≤ length vs → length us ≤ length (cond b (z ∷ vs) vs)
more_one true z us vs h = omega arith
more_one false z us vs h = h

-- of those that pass one test no more pass another than of all
pub fewer : {E : Type 0} (test p : E → Bool) (zs : List E) → length (filter test (filter p zs)) ≤ length (filter test zs)
fewer test p [] = omega arith
fewer {E} test p (z ∷ zs) = elim (cases_Bool (p z)) [
  | inl passes ↦
      subst (λ (us : List E). length (filter test us) ≤ length (filter test (z ∷ zs))) (sym (kept_head p z zs passes))
      (more_both (test z) z (filter test (filter p zs)) (filter test zs) (fewer test p zs))
  | inr fails ↦
      subst (λ (us : List E). length (filter test us) ≤ length (filter test (z ∷ zs))) (sym (left_head p z zs fails))
      (more_one (test z) z (filter test (filter p zs)) (filter test zs) (fewer test p zs))
]

-- a fact of each pair, at two places
pub pair_at : {E : Type 0} (R : E → E → Type 0) (xs : List E) (k j : ℕ) (y x : E) → AllPairs R xs → k < j → slice_get xs k ≡ Some y → slice_get xs j ≡ Some x → R y x
pair_at {E} R xs k j y x all less sy sx =
    subst (λ (z : E). R z x) (get_or_from_slice_get xs k y y sy) (subst (λ (z : E). R (get_or xs k y) z) (get_or_from_slice_get xs j x y sx) (all k j y less (slice_get_within xs j x sx)))
