-- The laws of accepted histories.
use Rattle.std.proofs.Common.{get_or, ℕ, zero, suc, ◌≡◌, ◌+◌, ◌-◌, ◌<◌, ◌≤◌, List, [], ◌∷◌, true, Option, Some, None, length, take, refl, sym, subst, ◌∙◌, arith, inl, inr}
use Rattle.std.specs.Prelude.{slice_get, IfSome, IsNone, Any}
use Rattle.std.specs.Str.{bytes_eq}
use Rattle.std.proofs.lemmas.Bool.{false≢true, cases_order}
use Rattle.std.proofs.lemmas.Slice.Eq.{bytes_eq-Decides}
use Rattle.std.proofs.lemmas.Option.{slice_get_within, slice_get_read, slice_get-get_or}
use Rattle.basis.proofs.ElementLemmas.{Any-weaker}
use Rattle.gate_spec.specs.declared.entry.GateEntry.{GateEntry}
use Rattle.lifecycle.specs.Entry.{IsIntroduction, IsRemoval, IsKnownOf, IsIntroduced, IsLive, GroupVersionResource}
use Rattle.lifecycle.specs.declared.entry.ApiChange.{ApiChange}
use Rattle.lifecycle.specs.declared.entry.ApiChange.TheVariants.{Introduced, Deprecated, Removed, Forgotten}
use Rattle.lifecycle.specs.declared.entry.ApiEntry.{ApiEntry}
use Rattle.schemas.specs.declared.array.Array.{Array}
use Rattle.schemas.specs.Dated.{Dated}
use Rattle.schemas.specs.Places.{Each, IsLeast}
use Rattle.schemas.specs.GateRules.{is_of_gate, previous_of_gate, IsGone, RisesInGate}
use Rattle.schemas.specs.ApiRules.{is_of_version, previous_of_version, name_of, IsNext, IsPlanned, IsKept}
use Rattle.schemas.specs.Rules.{IsAccepted, Check, IsUnbroken, IsFirstFault, last_of}
use Rattle.schemas.specs.Laws.{GatesRise, AreOfOneVersion, IsIntroducedOnce, IsKindLive, KindsStayLive, AreOneFault}
use Rattle.schemas.proofs.AcceptedLemmas as hr
use Rattle.schemas.proofs.PlaceLemmas.{some_injective}
use Rattle.schemas.proofs.DecisionLemmas.{removed_decided}
use Rattle.schemas.proofs.PreviousLemmas.{IsLast, last_passing_is}

same_bytes : (a b : List ℕ) → a ≡ b → bytes_eq a b ≡ true
same_bytes a b e = (bytes_eq-Decides a b).1 e

-- below the place n, entries of one gate rise in date
abbrev RiseBelow : List GateEntry → ℕ → Type 0
RiseBelow xs n = (i j : ℕ) (x y : GateEntry) → j < n → i < j → slice_get xs i ≡ Some x → slice_get xs j ≡ Some y → x.name ≡ y.name → x.since < y.since

rises_from : (xs : List GateEntry) (n i j : ℕ) (x y : GateEntry) → RiseBelow xs n → j ≤ n → i < j → slice_get xs i ≡ Some x → slice_get xs j ≡ Some y → x.name ≡ y.name → (found : Option GateEntry) → IsLast (is_of_gate y) xs j found → IfSome found (λ z. (z.since < y.since) × ¬ IsGone z.change) → x.since < y.since
rises_from xs n i j x y below bound less sx sy e None last rule =
    absurd (false≢true (sym (last i x less sx) ∙ same_bytes y.name x.name (sym e)))
rises_from xs n i j x y below bound less sx sy e (Some z) last rule =
    let named : y.name ≡ z.name = (bytes_eq-Decides y.name z.name).0 last.passes in
    let later : z.since < y.since = rule.0 in
    elim (cases_order i last.place) [
      | inl same ↦
          let equal : x ≡ z = some_injective x z (sym sx ∙ subst (λ (k : ℕ). slice_get xs k ≡ Some z) (sym same) last.stands) in
          subst (λ (w : GateEntry). w.since < y.since) (sym equal) later
      | inr other ↦ elim other [
        | inl low ↦
            let before : last.place < n = (let b : last.place < j = last.before in omega arith) in
            let earlier : x.since < z.since = below i last.place x z before low sx last.stands (e ∙ named) in
            omega arith
        | inr high ↦ absurd (false≢true (sym (last.none_between i x high less sx) ∙ same_bytes y.name x.name (sym e)))
      ]
    ]

rises_below : (xs : List GateEntry) → Each RisesInGate xs → (n : ℕ) → RiseBelow xs n
rises_below xs all zero = λ (i j : ℕ) (x y : GateEntry) (bound : j < 0) (less : i < j) (sx : slice_get xs i ≡ Some x) (sy : slice_get xs j ≡ Some y) (e : x.name ≡ y.name). absurd (omega arith)
rises_below xs all (suc n) = λ (i j : ℕ) (x y : GateEntry) (bound : j < suc n) (less : i < j) (sx : slice_get xs i ≡ Some x) (sy : slice_get xs j ≡ Some y) (e : x.name ≡ y.name).
    let within : j < length xs = slice_get_within xs j y sy in
    let at_most : j ≤ length xs = omega arith in
    let low : j ≤ n = omega arith in
    rises_from xs n i j x y (rises_below xs all n) low less sx sy e (previous_of_gate (take j xs) y) (last_passing_is (is_of_gate y) xs j at_most) (all j y sy)

pub gates_rise : (h : Dated) → IsAccepted h → GatesRise h
gates_rise h a = λ (i j : ℕ) (d : GateEntry) (less : i < j) (within : j < length h.gates) (e : (get_or h.gates i d).name ≡ (get_or h.gates j d).name).
    let bound : j < j + 1 = omega arith in
    rises_below h.gates (hr.gates_rise h a) (j + 1) i j (get_or h.gates i d) (get_or h.gates j d) bound less (slice_get-get_or h.gates i d (omega arith)) (slice_get-get_or h.gates j d within) e

-- HR6: an introduction stands behind no entry of its version
none_before : (previous : Option ApiEntry) (since : ℕ) (change : ApiChange) → IsIntroduction change → IsNext previous since change → IsNone previous
none_before previous since (Introduced kind singular namespaced enabled) h rule = rule
none_before previous since (Deprecated removal replacement) h rule = absurd h
none_before previous since Removed h rule = absurd h
none_before previous since Forgotten h rule = absurd h

same_version : (x y : ApiEntry) → AreOfOneVersion x y → is_of_version y x ≡ true
same_version x y e = rw (same_bytes y.group x.group (sym e.group), same_bytes y.version x.version (sym e.version), same_bytes y.resource x.resource (sym e.resource))

none_of_version : (xs : List ApiEntry) (i j : ℕ) (x y : ApiEntry) → i < j → slice_get xs i ≡ Some x → AreOfOneVersion x y → (found : Option ApiEntry) → IsLast (is_of_version y) xs j found → ¬ IsNone found
none_of_version xs i j x y less sx e None last none = false≢true (sym (last i x less sx) ∙ same_version x y e)
none_of_version xs i j x y less sx e (Some z) last none = false≢true (sym none)

pub introduced_once : (h : Dated) → IsAccepted h → IsIntroducedOnce h
introduced_once h a = λ (i j : ℕ) (x y : ApiEntry) (less : i < j) (sx : slice_get h.apis i ≡ Some x) (sy : slice_get h.apis j ≡ Some y) (e : AreOfOneVersion x y) (first : IsIntroduction x.change) (second : IsIntroduction y.change).
    let within : j < length h.apis = slice_get_within h.apis j y sy in
    let at_most : j ≤ length h.apis = omega arith in
    none_of_version h.apis i j x y less sx e (previous_of_version (take j h.apis) y) (last_passing_is (is_of_version y) h.apis j at_most)
    (none_before (previous_of_version (take j h.apis) y) y.since y.change second ((hr.versions_in_order h a) j y sy))

-- some entry of a list, by its place
pub any_stands : {E : Type 0} (P : E → Type 0) (xs : List E) → (any : Any P xs) → slice_get xs any.0 ≡ Some any.1
any_stands P xs any = slice_get_read xs (length xs) any.0 any.1 refl any.2 (sym any.3)

pub introduced_later : (xs : List ApiEntry) (name : GroupVersionResource) (m e : ℕ) → m ≤ e → IsIntroduced xs name m → IsIntroduced xs name e
introduced_later xs name m e later = Any-weaker (λ x. IsKnownOf name m x × IsIntroduction x.change) (λ x. IsKnownOf name e x × IsIntroduction x.change) xs
    (λ x (w : IsKnownOf name m x × IsIntroduction x.change). (record { group = w.0.group; version = w.0.version; resource = w.0.resource; dated = (let d : x.since ≤ m = w.0.dated in omega arith) }, w.1))

-- HR9: at its removal a version's replacement is live
replaced : (all : List ApiEntry) (x : ApiEntry) (change : ApiChange) → IsPlanned all x change → (version : List ℕ) × IsLive all (name_of x.group version x.resource) x.since
replaced all x (Introduced kind singular namespaced enabled) h = absurd h
replaced all x (Deprecated removal replacement) h = (replacement, h.1)
replaced all x Removed h = absurd h
replaced all x Forgotten h = absurd h

replaced_after : (all : List ApiEntry) (last : ℕ) (x : ApiEntry) (previous : Option ApiEntry) (change : ApiChange) → IsRemoval change → IsKept all last previous x change → (version : List ℕ) × IsLive all (name_of x.group version x.resource) x.since
replaced_after all last x previous (Introduced kind singular namespaced enabled) h rule = absurd h
replaced_after all last x previous (Deprecated removal replacement) h rule = absurd h
replaced_after all last x (Some y) Removed h rule = replaced all x y.change rule
replaced_after all last x None Removed h rule = absurd rule
replaced_after all last x previous Forgotten h rule = absurd h

stays_live_once : (h : Dated) → IsAccepted h → (group resource : List ℕ) (e : ℕ) → IsKindLive h group resource e → IsKindLive h group resource (e + 1)
stays_live_once h a group resource e live =
    let name : GroupVersionResource = name_of group live.0 resource in
    elim (removed_decided h.apis name (e + 1)) [
      | inr not ↦ (live.0, (introduced_later h.apis name e (e + 1) (omega arith) live.1.0, not))
      | inl any ↦
          let x : ApiEntry = any.1 in
          let known : IsKnownOf name (e + 1) x = any.4.0 in
          let dated : x.since ≤ e + 1 = known.dated in
          elim (cases_order x.since (e + 1)) [
            | inl same ↦
                let next = replaced_after h.apis (last_of h) x (previous_of_version (take any.0 h.apis) x) x.change any.4.1 ((hr.removals_planned h a) any.0 x (any_stands _ h.apis any)) in (
                  next.0,
                  subst (λ (g : List ℕ). IsLive h.apis (name_of g next.0 resource) (e + 1)) known.group
                      (subst (λ (r : List ℕ). IsLive h.apis (name_of x.group next.0 r) (e + 1)) known.resource
                      (subst (λ (d : ℕ). IsLive h.apis (name_of x.group next.0 x.resource) d) same next.1)),
                )
            | inr other ↦ elim other [
              | inl low ↦ absurd (live.1.1 (any.0, any.1, any.2, any.3, (record { group = known.group; version = known.version; resource = known.resource; dated = (omega arith) }, any.4.1)))
              | inr high ↦ absurd (omega arith)
            ]
          ]
    ]

stays_live_for : (h : Dated) → IsAccepted h → (group resource : List ℕ) (e n : ℕ) → IsKindLive h group resource e → IsKindLive h group resource (e + n)
stays_live_for h a group resource e zero live = subst (IsKindLive h group resource) (let same : e ≡ e + 0 = omega arith in same) live
stays_live_for h a group resource e (suc n) live = subst (IsKindLive h group resource) (let same : e + n + 1 ≡ e + suc n = omega arith in same) (stays_live_once h a group resource (e + n) (stays_live_for h a group resource e n live))

pub kinds_stay_live : (h : Dated) → IsAccepted h → KindsStayLive h
kinds_stay_live h a = λ (group resource : List ℕ) (e f : ℕ) (later : e ≤ f) (live : IsKindLive h group resource e).
    let gap : e + (f - e) ≡ f = omega arith in
    subst (IsKindLive h group resource) gap (stays_live_for h a group resource e (f - e) live)

-- an unbroken history has no first fault
pub no_first_fault : (h : Dated) (tests : List Check) (r : ℕ) (a : Array) (n : ℕ) → IsUnbroken h tests → ¬ IsFirstFault h tests r a n
no_first_fault h [] r a n unbroken fault = fault
no_first_fault h (test ∷ more) r a n unbroken fault = elim fault [
  | inl here ↦ unbroken.0 n here.2.0
  | inr later ↦ no_first_fault h more r a n unbroken.1 later.1
]

one_first : (P : ℕ → Type 0) (m n : ℕ) → IsLeast P m → IsLeast P n → m ≡ n
one_first P m n p q = elim (cases_order m n) [
  | inl same ↦ same
  | inr other ↦ elim other [ inl low ↦ absurd (q.1 m low p.0) | inr high ↦ absurd (p.1 n high q.0) ]
]

pub one_first_fault : (h : Dated) (tests : List Check) (r r' : ℕ) (a a' : Array) (n n' : ℕ) → IsFirstFault h tests r a n → IsFirstFault h tests r' a' n' → AreOneFault r r' a a' n n'
one_first_fault h [] r r' a a' n n' f g = absurd f
one_first_fault h (test ∷ more) r r' a a' n n' f g = elim f [
  | inl here ↦ elim g [
    | inl too ↦ record { rule = here.0 ∙ sym too.0; array = here.1 ∙ sym too.1; number = one_first (test.IsBrokenAt h) n n' here.2 too.2 }
    | inr later ↦ absurd (later.0 n here.2.0)
  ]
  | inr later ↦ elim g [
    | inl here ↦ absurd (later.0 n' here.2.0)
    | inr too ↦ one_first_fault h more r r' a a' n n' later.1 too.1
  ]
]
