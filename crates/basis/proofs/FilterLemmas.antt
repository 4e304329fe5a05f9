-- Lists of what passes a test.
use Rattle.std.proofs.Common.{◌≡◌, inl, inr, ◌<◌, Bool, true, false, List, [], ◌∷◌, ◌++◌, filter, Contains, refl, sym, ◌∙◌, ap, arith}
use Rattle.std.specs.List.{Any}
use Rattle.std.proofs.lemmas.Bool.{cases_Bool, cond_both, cond-true, cond-false}
use Rattle.std.proofs.lemmas.List.{append-nil}
use Rattle.std.proofs.lemmas.List.Elements.{All-contains, All-filter, All-contains_itself, filter_passes, filter-append, Contains-push_cases, Contains-append_left, Contains-append_right, Contains-append_cases}
use Rattle.basis.proofs.ElementLemmas.{Any-from}

pub Contains-from_filter : {X : Type 0} (p : X → Bool) (xs : List X) (x : X) → Contains (filter p xs) x → Contains xs x
Contains-from_filter p xs x h = All-contains (Contains xs) (filter p xs) x (All-filter p (Contains xs) xs (All-contains_itself xs)) h

pub passes_from_filter : {X : Type 0} (p : X → Bool) (xs : List X) (x : X) → Contains (filter p xs) x → p x ≡ true
passes_from_filter p xs x h = All-contains (λ y. p y ≡ true) (filter p xs) x (filter_passes p xs) h

same_head : {X : Type 0} (y x : X) → Contains (y ∷ []) x → y ≡ x
same_head y x h = elim (Contains-push_cases [] y x h) [ inl none ↦ absurd (let below : none.0 < 0 = none.1 in omega arith) | inr e ↦ e ]

pub Contains-filter : {X : Type 0} (p : X → Bool) (xs : List X) (x : X) → Contains xs x → p x ≡ true → Contains (filter p xs) x
Contains-filter p [] x h e = absurd (let below : h.0 < 0 = h.1 in omega arith)
Contains-filter p (y ∷ ys) x h e =
    elim (Contains-append_cases (y ∷ []) ys x h) [
      | inl here ↦
          let same : y ≡ x = same_head y x here in
          rw (cond-true (p y) (y ∷ filter p ys) (filter p ys) (ap p same ∙ e)) (Contains-append_left (y ∷ []) (filter p ys) x here)
      | inr later ↦ cond_both (p y) (y ∷ filter p ys) (filter p ys) (λ zs. Contains zs x)
          (λ _. Contains-append_right (y ∷ []) (filter p ys) x (Contains-filter p ys x later e))
          (λ _. Contains-filter p ys x later e)
    ]

pub filter-push : {X : Type 0} (p : X → Bool) (xs : List X) (x : X) → p x ≡ true → filter p (xs ++ x ∷ []) ≡ filter p xs ++ x ∷ []
filter-push p xs x e = filter-append p xs (x ∷ []) ∙ ap (λ zs. filter p xs ++ zs) (cond-true (p x) (x ∷ []) [] e)

pub filter-push_not : {X : Type 0} (p : X → Bool) (xs : List X) (x : X) → p x ≡ false → filter p (xs ++ x ∷ []) ≡ filter p xs
filter-push_not p xs x e = filter-append p xs (x ∷ []) ∙ ap (λ zs. filter p xs ++ zs) (cond-false (p x) (x ∷ []) [] e) ∙ append-nil (filter p xs)

pub Any-from_filter : {X : Type 0} (P : X → Type 0) (p : X → Bool) (xs : List X) → Any P (filter p xs) → Any P xs
Any-from_filter P p xs h = Any-from P xs h.1 (Contains-from_filter p xs h.1 (h.0, h.2, h.3)) h.4

-- what passes once passes again
pub filter_twice : {X : Type 0} (p : X → Bool) (xs : List X) → filter p (filter p xs) ≡ filter p xs
filter_twice p [] = refl
filter_twice p (x ∷ xs) = elim (cases_Bool (p x)) [
  | inl passes ↦
      let kept = cond-true (p x) (x ∷ filter p xs) (filter p xs) passes in
      ap (filter p) kept ∙ cond-true (p x) (x ∷ filter p (filter p xs)) (filter p (filter p xs)) passes ∙ ap (λ ys. x ∷ ys) (filter_twice p xs) ∙ sym kept
  | inr fails ↦
      let left = cond-false (p x) (x ∷ filter p xs) (filter p xs) fails in
      ap (filter p) left ∙ filter_twice p xs ∙ sym left
]
