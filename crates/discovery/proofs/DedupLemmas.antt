-- Lists without what stands twice in a row, as they grow.
use Rattle.std.proofs.Common.{◌≡◌, ℕ, Some, List, [], ◌∷◌, ◌++◌, refl, sym, ◌∙◌, ap, cond, inl, inr}
use Rattle.std.specs.Prelude.{unwrap_or}
use Rattle.std.specs.List.{dedup, dedup_from, AllByRecursion}
use Rattle.std.specs.Str.{bytes_eq}
use Rattle.std.proofs.lemmas.Bool.{cases_Bool}
use Rattle.basis.proofs.NameLemmas.{same_bytes}
use Rattle.discovery.specs.Lasts.{last_text, is_last}

pub last_text-push : (xs : List (List ℕ)) (x : List ℕ) → last_text (xs ++ x ∷ []) ≡ Some x
last_text-push [] x = refl
last_text-push (y ∷ ys) x = ap (λ o. Some (unwrap_or o y)) (last_text-push ys x)

-- the list with an element that isn't its last one
abbrev pub grown : List (List ℕ) → List ℕ → List (List ℕ)
grown xs x = cond (is_last (last_text xs) x) xs (xs ++ x ∷ [])

-- a kept element at the front of a list that isn't empty
grown-cons : (k : List ℕ) (xs : List (List ℕ)) (l x : List ℕ) → last_text xs ≡ Some l → grown (k ∷ xs) x ≡ k ∷ grown xs x
grown-cons k xs l x e =
    elim (cases_Bool (bytes_eq x l)) [
      | inl same ↦ rw (e, same) refl
      | inr other ↦ rw (e, other) refl
    ]

-- what `dedup_from` ends in
ends : (k : List ℕ) (xs : List (List ℕ)) → (l : List ℕ) × (last_text (dedup_from bytes_eq k xs) ≡ Some l)
ends k [] = (k, refl)
ends k (x ∷ xs) = elim (cases_Bool (bytes_eq x k)) [
  | inl same ↦ (let r = ends k xs in (r.0, rw same r.1))
  | inr other ↦ (let r = ends x xs in (r.0, rw other (ap (λ o. Some (unwrap_or o k)) r.1)))
]

dedup_from-push : (k : List ℕ) (xs : List (List ℕ)) (x : List ℕ) → dedup_from bytes_eq k (xs ++ x ∷ []) ≡ grown (dedup_from bytes_eq k xs) x
dedup_from-push k [] x = elim (cases_Bool (bytes_eq x k)) [ inl same ↦ rw same refl | inr other ↦ rw other refl ]
dedup_from-push k (y ∷ ys) x = elim (cases_Bool (bytes_eq y k)) [
  | inl same ↦ rw same (dedup_from-push k ys x)
  | inr other ↦ (let l = ends y ys in rw other (ap (λ zs. k ∷ zs) (dedup_from-push y ys x) ∙ sym (grown-cons k (dedup_from bytes_eq y ys) l.0 x l.1)))
]

pub dedup-push : (xs : List (List ℕ)) (x : List ℕ) → dedup bytes_eq (xs ++ x ∷ []) ≡ grown (dedup bytes_eq xs) x
dedup-push [] x = refl
dedup-push (y ∷ ys) x = dedup_from-push y ys x

-- a run of one text is kept once
pub dedup_from-run : (k : List ℕ) (run xs : List (List ℕ)) → AllByRecursion (λ x. x ≡ k) run → dedup_from bytes_eq k (run ++ xs) ≡ dedup_from bytes_eq k xs
dedup_from-run k [] xs h = refl
dedup_from-run k (x ∷ run) xs h = rw (same_bytes x k h.0) (dedup_from-run k run xs h.1)
