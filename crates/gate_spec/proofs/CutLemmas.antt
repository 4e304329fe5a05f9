-- A history that is cut at a release.
use Rattle.std.proofs.Common.{◌≡◌, ◌↔◌, inl, inr, ℕ, ◌≤◌, ◌<◌, Bool, true, false, List, [], ◌∷◌, ◌⊎◌, filter, refl, sym, ◌∙◌, ap, subst, cond, arith}
use Rattle.std.specs.Prelude.{nat_le}
use Rattle.std.specs.List.{Any, list_any}
use Rattle.std.specs.Str.{bytes_eq}
use Rattle.std.proofs.lemmas.Bool.{cases_Bool, cond-true, cond-false, false≢true, false_from_ne_true, leb-true, le-leb}
use Rattle.std.proofs.lemmas.List.Folds.{Any-from_list_any, list_any-from_Any}
use Rattle.std.proofs.lemmas.List.Kept.{AllPairs-filter}
use Rattle.std.proofs.lemmas.Slice.Eq.{bytes_eq-Decides}
use Rattle.basis.proofs.FilterLemmas.{Any-from_filter}
use Rattle.gate_spec.specs.declared.entry.GateEntry.{GateEntry}
use Rattle.gate_spec.specs.declared.entry.SpecAt.TheVariants.{PreAlpha, Never}
use Rattle.gate_spec.specs.Gates.{RisesInDate, cutoff, HasGate, IsFoundIn, IsRemovedIn, IsSpecAt}
use Rattle.gate_spec.specs.Laws.{IsKnownAlike}

-- of those that pass the wider test the narrower one keeps what it keeps of all
pub filter_narrower : {X : Type 0} (p q : X → Bool) (xs : List X) → ((x : X) → p x ≡ true → q x ≡ true) → filter p (filter q xs) ≡ filter p xs
filter_narrower p q [] narrower = refl
filter_narrower p q (x ∷ xs) narrower = elim (cases_Bool (q x)) [
  | inl passes ↦ ap (filter p) (cond-true (q x) (x ∷ filter q xs) (filter q xs) passes) ∙ ap (λ ys. cond (p x) (x ∷ ys) ys) (filter_narrower p q xs narrower)
  | inr fails ↦
      ap (filter p) (cond-false (q x) (x ∷ filter q xs) (filter q xs) fails) ∙ filter_narrower p q xs narrower
      ∙ sym (cond-false (p x) (x ∷ filter p xs) (filter p xs) (false_from_ne_true (p x) (λ yes. false≢true (sym fails ∙ narrower x yes))))
]

-- an earlier release has the same tables by the cut history
pub cutoff_within : (entries : List GateEntry) (o e : ℕ) → e ≤ o → cutoff (cutoff entries o) e ≡ cutoff entries e
cutoff_within entries o e within =
    filter_narrower (λ x. nat_le x.since e) (λ x. nat_le x.since o) entries
    (λ x dated. let before : x.since ≤ e = leb-true x.since e dated in le-leb x.since o (omega arith))

pub rises_cut : (entries : List GateEntry) (o : ℕ) → RisesInDate entries → RisesInDate (cutoff entries o)
rises_cut entries o up = AllPairs-filter (λ x y. x.name ≡ y.name → x.since < y.since) (λ x. nat_le x.since o) entries up

Any-map : {X : Type 0} (P Q : X → Type 0) (xs : List X) → ((x : X) → P x → Q x) → Any P xs → Any Q xs
Any-map P Q xs f h = (h.0, h.1, h.2, h.3, f h.1 h.4)

pub gate_or_none : (xs : List GateEntry) (name : List ℕ) → HasGate xs name ⊎ (HasGate xs name → ⊥)
gate_or_none xs name = elim (cases_Bool (list_any (λ x. bytes_eq x.name name) xs)) [
  | inl some ↦
      inl (Any-map (λ x. bytes_eq x.name name ≡ true) (λ x. x.name ≡ name) xs (λ x h. (bytes_eq-Decides x.name name).0 h)
      (Any-from_list_any (λ x. bytes_eq x.name name) xs some))
  | inr none ↦
      inr (λ h. false≢true (sym none ∙ list_any-from_Any (λ x. bytes_eq x.name name) xs
      (Any-map (λ x. x.name ≡ name) (λ x. bytes_eq x.name name ≡ true) xs (λ x h. (bytes_eq-Decides x.name name).1 h) h)))
]

pub same_facts : {X : Type 0} (P : X → Type 0) (x y : X) → x ≡ y → P x ↔ P y
same_facts P x y same = (subst P same, subst P (sym same))

known_cut : (entries : List GateEntry) (name : List ℕ) (o e : ℕ) → cutoff (cutoff entries o) e ≡ cutoff entries e → IsKnownAlike entries (cutoff entries o) name e
known_cut entries name o e same =
    let none_in : (HasGate (cutoff entries o) name → ⊥) → HasGate (cutoff entries e) name → ⊥ =
    λ none some. none (Any-from_filter (λ y. y.name ≡ name) (λ y. nat_le y.since e) (cutoff entries o) (subst (λ t. HasGate t name) (sym same) some)) in
    record {
      found = λ stage default locked. same_facts (λ t. IsFoundIn t name stage default locked) (cutoff (cutoff entries o) e) (cutoff entries e) same;
      removed = λ value. same_facts (λ t. IsRemovedIn t name value) (cutoff (cutoff entries o) e) (cutoff entries e) same;
      later = (
        λ h. ((subst (λ t. HasGate t name → ⊥) same h.0, Any-from_filter (λ y. y.name ≡ name) (λ y. nat_le y.since o) entries h.1), h.1),
        λ h. (subst (λ t. HasGate t name → ⊥) (sym same) h.0.0, h.1),
      );
      never = (
        λ none. ((elim (gate_or_none entries name) [ inl some ↦ inl (none_in none, some) | inr never ↦ inr never ]), none),
        λ h. h.1,
      );
    }

pub known_within : (entries cut : List GateEntry) (name : List ℕ) (o e : ℕ) → cut ≡ cutoff entries o → e ≤ o → IsKnownAlike entries cut name e
known_within entries cut name o e is within = subst (λ xs. IsKnownAlike entries xs name e) (sym is) (known_cut entries name o e (cutoff_within entries o e within))
