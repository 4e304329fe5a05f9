-- A history that is cut at a release.
use Rattle.std.proofs.Common.{◌≡◌, ℕ, ◌≤◌, Bool, true, false, List, [], ◌∷◌, filter, refl, inl, inr, sym, ◌∙◌, ap, cond, arith}
use Rattle.std.specs.Prelude.{nat_le}
use Rattle.std.proofs.lemmas.Bool.{cases_Bool, cond-true, cond-false, false≢true, false_from_ne_true, leb-true, le-leb}
use Rattle.lifecycle.specs.declared.entry.ApiEntry.{ApiEntry}
use Rattle.lifecycle.specs.Tables.{cutoff}

-- of those that pass the wider test the narrower one keeps what it keeps of all
pub filter_narrower : {X : Type 0} (p q : X → Bool) (xs : List X) → ((x : X) → p x ≡ true → q x ≡ true) → filter p (filter q xs) ≡ filter p xs
filter_narrower p q [] narrower = refl
filter_narrower p q (x ∷ xs) narrower = elim (cases_Bool (q x)) [
  | inl passes ↦ ap (filter p) (cond-true (q x) (x ∷ filter q xs) (filter q xs) passes) ∙ ap (λ ys. cond (p x) (x ∷ ys) ys) (filter_narrower p q xs narrower)
  | inr fails ↦
      ap (filter p) (cond-false (q x) (x ∷ filter q xs) (filter q xs) fails) ∙ filter_narrower p q xs narrower
      ∙ sym (cond-false (p x) (x ∷ filter p xs) (filter p xs) (false_from_ne_true (p x) (λ yes. false≢true (sym fails ∙ narrower x yes))))
]

-- an earlier release has the same tables by the cut history
pub cutoff_within : (entries : List ApiEntry) (o e : ℕ) → e ≤ o → cutoff (cutoff entries o) e ≡ cutoff entries e
cutoff_within entries o e within =
    filter_narrower (λ x. nat_le x.since e) (λ x. nat_le x.since o) entries
    (λ x dated. let before : x.since ≤ e = leb-true x.since e dated in le-leb x.since o (omega arith))

pub cut_tables : (entries cut : List ApiEntry) (o e : ℕ) → cut ≡ cutoff entries o → e ≤ o → cutoff entries e ≡ cutoff cut e
cut_tables entries cut o e is within = sym (ap (λ xs. cutoff xs e) is ∙ cutoff_within entries o e within)
