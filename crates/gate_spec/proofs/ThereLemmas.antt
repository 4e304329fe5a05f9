-- A release knows something of each gate.
use Rattle.std.proofs.Common.{◌≡◌, ◌⊎◌, inl, inr, ℕ, zero, suc, ◌+◌, ◌<◌, ◌≤◌, Bool, true, false, List, [], ◌∷◌, ◌++◌, All, length, take, get_or, refl, sym, ◌∙◌, ap, subst, arith}
use Rattle.std.specs.Str.{bytes_eq}
use Rattle.std.proofs.lemmas.Bool.{cases_Bool, cases_lt, false≢true}
use Rattle.std.proofs.lemmas.List.{get_or_default, take_more, take_all}
use Rattle.std.proofs.lemmas.Slice.Eq.{bytes_eq-Decides}
use Rattle.gate_spec.specs.declared.entry.GateEntry.{GateEntry}
use Rattle.gate_spec.specs.declared.entry.GateChange.{GateChange}
use Rattle.gate_spec.specs.declared.entry.GateChange.TheVariants.{Spec, Gone}
use Rattle.gate_spec.specs.declared.entry.SpecAt.{SpecAt}
use Rattle.gate_spec.specs.declared.entry.SpecAt.TheVariants.{Found, PreAlpha, Removed, Never}
use Rattle.gate_spec.specs.Gates.{RisesInDate, cutoff, HasGate, IsLastDefault, IsSpecAt}
use Rattle.gate_spec.proofs.GateLemmas.{spec_at_first, spec_at_later, spec_at_spec, spec_at_gone, spec_at_passed, last_default_found, last_default_none, no_gate_cutoff, rises_at}

default_there : (xs : List GateEntry) (name : List ℕ) (e : ℕ) (s : SpecAt) → IsSpecAt xs name e s → (value : Bool) × IsLastDefault (cutoff xs e) name value
default_there xs name e (Found stage default locked) h = (default, last_default_found (cutoff xs e) name stage default locked h)
default_there xs name e (Removed value) h = (value, h.3)
default_there xs name e PreAlpha h = (false, last_default_none (cutoff xs e) name h.0)
default_there xs name e Never h = (false, last_default_none (cutoff xs e) name (no_gate_cutoff xs name e h))

module _ (xs : List GateEntry) (x : GateEntry) (e : ℕ) (older : All (λ y. y.name ≡ x.name → y.since < x.since) xs) where
  abbrev Next : Type 0
  Next = (t : SpecAt) × IsSpecAt (xs ++ x ∷ []) x.name e t

  later_there : (s : SpecAt) → e < x.since → IsSpecAt xs x.name e s → Next
  later_there Never later h = (PreAlpha, spec_at_first xs x e later h)
  later_there PreAlpha later h = (PreAlpha, spec_at_later xs x x.name e PreAlpha later (λ same. cc) h)
  later_there (Removed value) later h = (Removed value, spec_at_later xs x x.name e (Removed value) later (λ same. cc) h)
  later_there (Found stage default locked) later h = (Found stage default locked, spec_at_later xs x x.name e (Found stage default locked) later (λ same. cc) h)

  change_there : (s : SpecAt) (k : GateChange) → x.change ≡ k → x.since ≤ e → IsSpecAt xs x.name e s → Next
  change_there s (Spec stage default locked) is known h = (Found stage default locked, spec_at_spec xs x e stage default locked known is older)
  change_there s Gone is known h =
      let last = default_there xs x.name e s h in
      (Removed last.0, spec_at_gone xs x e last.0 known is older last.1)

  next_there : (s : SpecAt) → IsSpecAt xs x.name e s → Next
  next_there s h = elim (cases_lt e x.since) [ inl later ↦ later_there s later h | inr known ↦ change_there s x.change refl known h ]

-- any entry
an_entry : GateEntry
an_entry = record { name = []; since = 0; change = Gone }

nothing_of : (name : List ℕ) → HasGate [] name → ⊥
nothing_of name h = let below : h.0 < 0 = h.2 in omega arith

there_up_to : (xs : List GateEntry) (name : List ℕ) (e : ℕ) → RisesInDate xs → (k : ℕ) → k ≤ length xs → (s : SpecAt) × IsSpecAt (take k xs) name e s
there_up_to xs name e up zero within = (Never, nothing_of name)
there_up_to xs name e up (suc k) within =
    let below : k < length xs = omega arith in
    let x = get_or xs k an_entry in
    let is : x ≡ get_or xs k x = get_or_default xs k an_entry x below in
    let before = there_up_to xs name e up k (omega arith) in
    let more : take (suc k) xs ≡ take k xs ++ x ∷ [] = (let one : suc k ≡ k + 1 = omega arith in ap (λ n. take n xs) one) ∙ take_more xs k an_entry below in
    elim (cases_Bool (bytes_eq x.name name)) [
      | inl holds ↦
          let same : x.name ≡ name = (bytes_eq-Decides x.name name).0 holds in
          let next = next_there (take k xs) x e (rises_at xs k an_entry up below) before.0 (subst (λ n. IsSpecAt (take k xs) n e before.0) (sym same) before.1) in
          (next.0, subst (λ ys. IsSpecAt ys name e next.0) (sym more) (subst (λ n. IsSpecAt (take k xs ++ x ∷ []) n e next.0) same next.1))
      | inr fails ↦
          let other : x.name ≡ name → ⊥ = λ same. false≢true (sym fails ∙ (bytes_eq-Decides x.name name).1 same) in
          (before.0, subst (λ ys. IsSpecAt ys name e before.0) ((let one : k + 1 ≡ suc k = omega arith in ap (λ n. take n xs) one)) (spec_at_passed xs k x name e before.0 below is other before.1))
    ]

pub spec_there : (xs : List GateEntry) (name : List ℕ) (e : ℕ) → RisesInDate xs → (s : SpecAt) × IsSpecAt xs name e s
spec_there xs name e up =
    let h = there_up_to xs name e up (length xs) (omega arith) in
    (h.0, subst (λ ys. IsSpecAt ys name e h.0) (take_all (length xs) xs (omega arith)) h.1)
