-- Facts that are decided, and facts that hold where their denial doesn't.
use Rattle.std.proofs.Common.{ℕ, zero, suc, ◌≡◌, ◌<◌, ◌≤◌, List, [], ◌∷◌, Bool, true, false, length, refl, sym, subst, arith, inl, inr, get_or, ◌⊎◌}
use Rattle.std.specs.Prelude.{All, Any}
use Rattle.std.specs.Bool.{Decides}
use Rattle.std.specs.Str.{bytes_eq}
use Rattle.std.proofs.lemmas.Bool.Decides.{not_from_Decides}
use Rattle.std.proofs.lemmas.Bool.{false≢true, cases_order}
use Rattle.std.proofs.lemmas.Slice.Eq.{bytes_eq-Decides}
use Rattle.lifecycle.specs.Entry.{IsIntroduction, IsRemoval, IsKnownOf, IsIntroduced, IsRemoved, GroupVersionResource}
use Rattle.lifecycle.specs.declared.entry.ApiChange.{ApiChange}
use Rattle.lifecycle.specs.declared.entry.ApiChange.TheVariants.{Introduced, Deprecated, Removed, Forgotten}
use Rattle.lifecycle.specs.declared.entry.ApiEntry.{ApiEntry}
use Rattle.schemas.specs.ApiRules.{IsForgetting, IsForgotten}

any_split : {E : Type 0} (P : E → Type 0) (x : E) (xs : List E) → ¬ P x → ¬ Any P xs → (k : ℕ) (y : E) → k < length (x ∷ xs) → get_or (x ∷ xs) k y ≡ y → ¬ P y
any_split {E} P x xs here more zero y h e p = here (subst P (sym e) p)
any_split {E} P x xs here more (suc k) y h e p = more (k, y, (omega arith), e, p)

-- a fact that is decided of each entry is decided of some entry
pub any_decided : {E : Type 0} (P : E → Type 0) → ((x : E) → P x ⊎ ¬ P x) → (xs : List E) → Any P xs ⊎ ¬ Any P xs
any_decided P each [] = inr (λ any. let k : any.0 < 0 = any.2 in omega arith)
any_decided {E} P each (x ∷ xs) = elim (each x) [
  | inl here ↦ inl (0, x, (omega arith), refl, here)
  | inr nothere ↦ elim (any_decided P each xs) [
    | inl more ↦ inl (suc more.0, more.1, (let k : more.0 < length xs = more.2 in omega arith), more.3, more.4)
    | inr nowhere ↦ inr (λ any. any_split P x xs nothere nowhere any.0 any.1 any.2 any.3 any.4)
  ]
]

pub decided : {P : Type 0} (r : Bool) → Decides r P → P ⊎ ¬ P
decided true d = inl (d.0 refl)
decided false d = inr (not_from_Decides false d refl)

pub both : {P Q : Type 0} → P ⊎ ¬ P → Q ⊎ ¬ Q → (P × Q) ⊎ ¬ (P × Q)
both p q = elim p [
  | inl one ↦ elim q [ inl other ↦ inl (one, other) | inr no_q ↦ inr (λ t. no_q t.1) ]
  | inr no_p ↦ inr (λ t. no_p t.0)
]

pub removal_decided : (change : ApiChange) → IsRemoval change ⊎ ¬ IsRemoval change
removal_decided (Introduced kind singular namespaced enabled) = inr (λ h. h)
removal_decided (Deprecated removal replacement) = inr (λ h. h)
removal_decided Removed = inl tt
removal_decided Forgotten = inr (λ h. h)

pub at_most_decided : (m n : ℕ) → (m ≤ n) ⊎ ¬ (m ≤ n)
at_most_decided m n = elim (cases_order m n) [
  | inl same ↦ inl (omega arith)
  | inr other ↦ elim other [ inl low ↦ inl (omega arith) | inr high ↦ inr (λ (h : m ≤ n). absurd (omega arith)) ]
]

pub known_decided : (name : GroupVersionResource) (e : ℕ) (x : ApiEntry) → IsKnownOf name e x ⊎ ¬ IsKnownOf name e x
known_decided name e x =
    elim (both (both (decided (bytes_eq x.group name.group) (bytes_eq-Decides x.group name.group)) (decided (bytes_eq x.version name.version) (bytes_eq-Decides x.version name.version)))
    (both (decided (bytes_eq x.resource name.resource) (bytes_eq-Decides x.resource name.resource)) (at_most_decided x.since e))) [
      | inl all ↦ inl (record { group = all.0.0; version = all.0.1; resource = all.1.0; dated = all.1.1 })
      | inr not ↦ inr (λ k. not ((k.group, k.version), (k.resource, k.dated)))
    ]

pub removed_decided : (xs : List ApiEntry) (name : GroupVersionResource) (e : ℕ) → IsRemoved xs name e ⊎ ¬ IsRemoved xs name e
removed_decided xs name e = any_decided (λ x. IsKnownOf name e x × IsRemoval x.change) (λ x. both (known_decided name e x) (removal_decided x.change)) xs

pub introduction_decided : (change : ApiChange) → IsIntroduction change ⊎ ¬ IsIntroduction change
introduction_decided (Introduced kind singular namespaced enabled) = inl tt
introduction_decided (Deprecated removal replacement) = inr (λ h. h)
introduction_decided Removed = inr (λ h. h)
introduction_decided Forgotten = inr (λ h. h)

forgetting_decided : (change : ApiChange) → IsForgetting change ⊎ ¬ IsForgetting change
forgetting_decided (Introduced kind singular namespaced enabled) = inr (λ h. h)
forgetting_decided (Deprecated removal replacement) = inr (λ h. h)
forgetting_decided Removed = inr (λ h. h)
forgetting_decided Forgotten = inl tt

pub introduced_decided : (xs : List ApiEntry) (name : GroupVersionResource) (e : ℕ) → IsIntroduced xs name e ⊎ ¬ IsIntroduced xs name e
introduced_decided xs name e = any_decided (λ x. IsKnownOf name e x × IsIntroduction x.change) (λ x. both (known_decided name e x) (introduction_decided x.change)) xs

pub forgotten_decided : (xs : List ApiEntry) (name : GroupVersionResource) (e : ℕ) → IsForgotten xs name e ⊎ ¬ IsForgotten xs name e
forgotten_decided xs name e = any_decided (λ x. IsKnownOf name e x × IsForgetting x.change) (λ x. both (known_decided name e x) (forgetting_decided x.change)) xs

-- the fact holds where its denial doesn't
abbrev pub IsStable : Type 0 → Type 0
IsStable P = ¬ ¬ P → P

pub stable_decided : {P : Type 0} → P ⊎ ¬ P → IsStable P
stable_decided d h = elim d [ inl holds ↦ holds | inr fails ↦ absurd (h fails) ]

pub stable_both : {P Q : Type 0} → IsStable P → IsStable Q → IsStable (P × Q)
stable_both p q h = (p (λ no. h (λ t. no t.0)), q (λ no. h (λ t. no t.1)))

pub stable_not : {P : Type 0} → IsStable (¬ P)
stable_not h = λ holds. h (λ no. no holds)

pub stable_to : {P Q : Type 0} → IsStable Q → IsStable (P → Q)
stable_to q h = λ holds. q (λ no. h (λ f. no (f holds)))

pub stable_all : {E : Type 0} (P : E → Type 0) (xs : List E) → ((x : E) → IsStable (P x)) → IsStable (All P xs)
stable_all {E} P xs each h = λ (k : ℕ) (d : E) (within : k < length xs). each (get_or xs k d) (λ no. h (λ all. no (all k d within)))

pub stable_holds : IsStable (Unit {0})
stable_holds h = tt

pub stable_fails : IsStable ⊥
stable_fails h = h (λ fails. fails)

pub stable_less : (m n : ℕ) → IsStable (m < n)
stable_less m n h = elim (cases_order m n) [
  | inl same ↦ absurd (h (λ (less : m < n). omega arith))
  | inr other ↦ elim other [ inl low ↦ low | inr high ↦ absurd (h (λ (less : m < n). omega arith)) ]
]

pub stable_at_most : (m n : ℕ) → IsStable (m ≤ n)
stable_at_most m n = stable_decided (at_most_decided m n)

pub stable_same : (m n : ℕ) → IsStable (m ≡ n)
stable_same m n h = elim (cases_order m n) [
  | inl same ↦ same
  | inr other ↦ elim other [ inl low ↦ absurd (h (λ (e : m ≡ n). omega arith)) | inr high ↦ absurd (h (λ (e : m ≡ n). omega arith)) ]
]

pub stable_bytes : (a b : List ℕ) → IsStable (a ≡ b)
stable_bytes a b = stable_decided (decided (bytes_eq a b) (bytes_eq-Decides a b))

pub stable_bool : (b c : Bool) → IsStable (b ≡ c)
stable_bool true true h = refl
stable_bool false false h = refl
stable_bool true false h = absurd (h (λ e. false≢true (sym e)))
stable_bool false true h = absurd (h false≢true)
