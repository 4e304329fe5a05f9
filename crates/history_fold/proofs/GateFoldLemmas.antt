-- Gates where a history is folded: what stays, which rules are kept, and that each release from the floor on knows the same.
use Rattle.std.proofs.Common.{ℕ, zero, suc, ◌≡◌, ◌⊎◌, ◌+◌, ◌<◌, ◌≤◌, ◌&&◌, not, List, Bool, true, false, Option, Some, None, Contains, filter, length, take, refl, sym, ap, subst, ◌∙◌, arith, inl, inr}
use Rattle.std.specs.Prelude.{nat_le, nat_lt, slice_get, Any, IfSome, IsSomeAnd}
use Rattle.std.specs.List.{list_any}
use Rattle.std.specs.Str.{bytes_eq}
use Rattle.std.proofs.ByRecursion.{all_kept_by}
use Rattle.std.proofs.lemmas.Bool.{cases_Bool, cases_order, and_parts, and_from, both_ways, not-true, not_from_false, false_from_ne_true, false≢true, leb-true, le-leb, ltb-true, lt-ltb}
use Rattle.std.proofs.lemmas.List.Elements.{All-contains}
use Rattle.std.proofs.lemmas.List.Folds.{Any-from_list_any, list_any-from_Any}
use Rattle.std.proofs.lemmas.Option.{slice_get_within}
use Rattle.std.proofs.lemmas.Slice.Eq.{bytes_eq-Decides}
use Rattle.basis.proofs.ElementLemmas.{Any-from, Any-weaker}
use Rattle.basis.proofs.FilterLemmas.{Contains-filter, Contains-from_filter, passes_from_filter}
use Rattle.gate_spec.specs.Gates.{RisesInDate, cutoff, HasGate, IsNewest, is_spec, specs_of, IsLastDefault}
use Rattle.gate_spec.specs.Same.{AreSameGates}
use Rattle.gate_spec.specs.declared.entry.GateChange.{GateChange}
use Rattle.gate_spec.specs.declared.entry.GateChange.TheVariants.{Spec, Gone}
use Rattle.gate_spec.specs.declared.entry.GateEntry.{GateEntry}
use Rattle.schemas.specs.GateRules.{is_of_gate, previous_of_gate, IsGone, IsLockedSpec, RisesInGate, FitsStage, IsRipe, FollowsLockedSpec}
use Rattle.schemas.specs.Places.{Each}
use Rattle.schemas.specs.Rules.{IsGateBy}
use Rattle.schemas.proofs.LawLemmas.{any_stands}
use Rattle.schemas.proofs.PlaceLemmas.{some_injective}
use Rattle.schemas.proofs.PreviousLemmas.{IsLast, last_passing_is}
use Rattle.history_cut.proofs.KeptLemmas.{each_kept, all_before, pair_at}
use Rattle.history_fold.specs.Folded.{IsLaterSpec, IsPast, is_later_spec, is_past, gates_from}
use Rattle.history_fold.proofs.ListLemmas.{last_stays, last_holds, all_from}

-- ---- what is past

pub later_said : (floor : ℕ) (x y : GateEntry) → is_later_spec floor x y ≡ true → IsLaterSpec floor x y
later_said floor x y h =
    let (spec, rest) = and_parts (is_spec y.change) (bytes_eq y.name x.name && (nat_lt x.since y.since && nat_le y.since floor)) h in
    let (name, dates) = and_parts (bytes_eq y.name x.name) (nat_lt x.since y.since && nat_le y.since floor) rest in
    let (after, by) = and_parts (nat_lt x.since y.since) (nat_le y.since floor) dates in
    record { spec = spec; named = (bytes_eq-Decides y.name x.name).0 name; later = ltb-true x.since y.since after; dated = leb-true y.since floor by }

pub later_tested : (floor : ℕ) (x y : GateEntry) → IsLaterSpec floor x y → is_later_spec floor x y ≡ true
later_tested floor x y is =
    and_from (is_spec y.change) (bytes_eq y.name x.name && (nat_lt x.since y.since && nat_le y.since floor)) is.spec
    (and_from (bytes_eq y.name x.name) (nat_lt x.since y.since && nat_le y.since floor) ((bytes_eq-Decides y.name x.name).1 is.named)
    (and_from (nat_lt x.since y.since) (nat_le y.since floor) (lt-ltb x.since y.since is.later) (le-leb y.since floor is.dated)))

pub past_said : (gates : List GateEntry) (floor : ℕ) (x : GateEntry) → is_past gates floor x ≡ true → IsPast gates floor x
past_said gates floor x h =
    let (spec, some) = and_parts (is_spec x.change) (list_any (is_later_spec floor x) gates) h in
    (spec, Any-weaker (λ y. is_later_spec floor x y ≡ true) (IsLaterSpec floor x) gates (λ y said. later_said floor x y said) (Any-from_list_any (is_later_spec floor x) gates some))

pub past_tested : (gates : List GateEntry) (floor : ℕ) (x : GateEntry) → IsPast gates floor x → is_past gates floor x ≡ true
past_tested gates floor x is =
    and_from (is_spec x.change) (list_any (is_later_spec floor x) gates) is.0
    (list_any-from_Any (is_later_spec floor x) gates (Any-weaker (IsLaterSpec floor x) (λ y. is_later_spec floor x y ≡ true) gates (λ y later. later_tested floor x y later) is.1))

pub stays_said : (gates : List GateEntry) (floor : ℕ) (x : GateEntry) → not (is_past gates floor x) ≡ true → ¬ IsPast gates floor x
stays_said gates floor x h is = both_ways (is_past gates floor x) (not-true (is_past gates floor x) h) (past_tested gates floor x is)

pub stays_tested : (gates : List GateEntry) (floor : ℕ) (x : GateEntry) → ¬ IsPast gates floor x → not (is_past gates floor x) ≡ true
stays_tested gates floor x none = not_from_false (is_past gates floor x) (false_from_ne_true (is_past gates floor x) (λ h. none (past_said gates floor x h)))

-- ---- the spec of a gate that stays

-- a spec that stays, of the gate of x, dated by the floor and not before x
pub record IsHeir (gates : List GateEntry) (floor : ℕ) (x w : GateEntry) : Type 0 where
  pub among : Contains gates w
  pub stays : not (is_past gates floor w) ≡ true
  pub spec : is_spec w.change ≡ true
  pub named : w.name ≡ x.name
  pub later : x.since ≤ w.since
  pub dated : w.since ≤ floor

itself : (gates : List GateEntry) (floor : ℕ) (x : GateEntry) → Contains gates x → is_spec x.change ≡ true → x.since ≤ floor → is_past gates floor x ≡ false → (w : GateEntry) × IsHeir gates floor x w
itself gates floor x among spec dated stays = (x, record { among = among; stays = not_from_false (is_past gates floor x) stays; spec = spec; named = refl; later = omega arith; dated = dated })

heir_within : (gates : List GateEntry) (floor n : ℕ) (x : GateEntry) → Contains gates x → is_spec x.change ≡ true → x.since ≤ floor → floor ≤ x.since + n → (w : GateEntry) × IsHeir gates floor x w
heir_within gates floor zero x among spec dated near = elim (cases_Bool (is_past gates floor x)) [
  | inl past ↦
      let y = (past_said gates floor x past).1 in
      let is : IsLaterSpec floor x y.1 = y.4 in
      let later : x.since < y.1.since = is.later in
      let by : y.1.since ≤ floor = is.dated in
      absurd (omega arith)
  | inr stays ↦ itself gates floor x among spec dated stays
]
heir_within gates floor (suc n) x among spec dated near = elim (cases_Bool (is_past gates floor x)) [
  | inl past ↦
      let y = (past_said gates floor x past).1 in
      let is : IsLaterSpec floor x y.1 = y.4 in
      let later : x.since < y.1.since = is.later in
      let found = heir_within gates floor n y.1 (y.0, y.2, y.3) is.spec is.dated (omega arith) in
      let heir : IsHeir gates floor y.1 found.0 = found.1 in
      let not_before : y.1.since ≤ found.0.since = heir.later in
      (found.0, record { among = heir.among; stays = heir.stays; spec = heir.spec; named = heir.named ∙ is.named; later = omega arith; dated = heir.dated })
  | inr stays ↦ itself gates floor x among spec dated stays
]

pub heir_of : (gates : List GateEntry) (floor : ℕ) (x : GateEntry) → Contains gates x → is_spec x.change ≡ true → x.since ≤ floor → (w : GateEntry) × IsHeir gates floor x w
heir_of gates floor x among spec dated = heir_within gates floor floor x among spec dated (omega arith)

-- ---- nothing follows a removal (HR3)

-- below the place n, an entry that another one of its gate follows is no removal
abbrev EndsBelow : List GateEntry → ℕ → Type 0
EndsBelow xs n = (i j : ℕ) (x y : GateEntry) → j < n → i < j → slice_get xs i ≡ Some x → slice_get xs j ≡ Some y → x.name ≡ y.name → ¬ IsGone x.change

ends_from : (xs : List GateEntry) (n i j : ℕ) (x y : GateEntry) → EndsBelow xs n → j ≤ n → i < j → slice_get xs i ≡ Some x → slice_get xs j ≡ Some y → x.name ≡ y.name
    → (found : Option GateEntry) → IsLast (is_of_gate y) xs j found → IfSome found (λ z. (z.since < y.since) × ¬ IsGone z.change) → ¬ IsGone x.change
ends_from xs n i j x y below bound less sx sy e None last rule = absurd (false≢true (sym (last i x less sx) ∙ (bytes_eq-Decides y.name x.name).1 (sym e)))
ends_from xs n i j x y below bound less sx sy e (Some z) last rule =
    let named : y.name ≡ z.name = (bytes_eq-Decides y.name z.name).0 last.passes in
    elim (cases_order i last.place) [
      | inl same ↦
          let equal : x ≡ z = some_injective x z (sym sx ∙ subst (λ (k : ℕ). slice_get xs k ≡ Some z) (sym same) last.stands) in
          subst (λ (w : GateEntry). ¬ IsGone w.change) (sym equal) rule.1
      | inr other ↦ elim other [
        | inl low ↦
            let before : last.place < n = (let b : last.place < j = last.before in omega arith) in
            below i last.place x z before low sx last.stands (e ∙ named)
        | inr high ↦ absurd (false≢true (sym (last.none_between i x high less sx) ∙ (bytes_eq-Decides y.name x.name).1 (sym e)))
      ]
    ]

module _ (xs : List GateEntry) (all : Each RisesInGate xs) where
  ends_below : (n : ℕ) → EndsBelow xs n
  ends_below zero = λ (i j : ℕ) (x y : GateEntry) (bound : j < 0) (less : i < j) (sx : slice_get xs i ≡ Some x) (sy : slice_get xs j ≡ Some y) (e : x.name ≡ y.name). absurd (omega arith)
  ends_below (suc n) = λ (i j : ℕ) (x y : GateEntry) (bound : j < suc n) (less : i < j) (sx : slice_get xs i ≡ Some x) (sy : slice_get xs j ≡ Some y) (e : x.name ≡ y.name).
      let within : j < length xs = slice_get_within xs j y sy in
      let at_most : j ≤ length xs = omega arith in
      let low : j ≤ n = omega arith in
      ends_from xs n i j x y (ends_below n) low less sx sy e (previous_of_gate (take j xs) y) (last_passing_is (is_of_gate y) xs j at_most) (all j y sy)

  pub no_removal_before : (i j : ℕ) (x y : GateEntry) → i < j → slice_get xs i ≡ Some x → slice_get xs j ≡ Some y → x.name ≡ y.name → ¬ IsGone x.change
  no_removal_before i j x y less sx sy e = ends_below (j + 1) i j x y (omega arith) less sx sy e

-- ---- the rules

not_gone : (change : GateChange) → is_spec change ≡ true → ¬ IsGone change
not_gone (Spec stage default locked) h gone = gone
not_gone Gone h gone = false≢true h

spec_where_locked : (change : GateChange) → IsLockedSpec change → is_spec change ≡ true
spec_where_locked (Spec stage default locked) h = refl
spec_where_locked Gone h = absurd h

module _ (gates : List GateEntry) (floor : ℕ) where
  -- HR2
  pub gates_dated : (last : ℕ) → Each (IsGateBy last) gates → Each (IsGateBy last) (gates_from gates floor)
  gates_dated last = each_kept (IsGateBy last) (IsGateBy last) (λ x. not (is_past gates floor x)) gates (λ j x sx passes keeps. keeps)

  -- HR3
  pub gates_rise_folded : RisesInDate gates → Each RisesInGate gates → Each RisesInGate (gates_from gates floor)
  gates_rise_folded rise all =
      each_kept RisesInGate RisesInGate (λ x. not (is_past gates floor x)) gates
      (λ (j : ℕ) (x : GateEntry) (sx : slice_get gates j ≡ Some x) (passes : not (is_past gates floor x) ≡ true) (keeps : RisesInGate (take j gates) x).
      let P : GateEntry → Type 0 = λ y. (y.since < x.since) × ¬ IsGone y.change in
      last_holds P (is_of_gate x) (filter (λ y. not (is_past gates floor y)) (take j gates))
      (all_kept_by (λ y. not (is_past gates floor y)) (λ y. is_of_gate x y ≡ true → P y) (take j gates)
      (all_before (λ y. is_of_gate x y ≡ true → P y) gates j (λ (k : ℕ) (y : GateEntry) (less : k < j) (sy : slice_get gates k ≡ Some y) (same : is_of_gate x y ≡ true).
      let named : y.name ≡ x.name = sym ((bytes_eq-Decides x.name y.name).0 same) in
      (pair_at (λ (a b : GateEntry). a.name ≡ b.name → a.since < b.since) gates k j y x rise less sy sx named, no_removal_before gates all k j y x less sy sx named)))))
      all

  -- HR4
  pub stages_fit_folded : Each FitsStage gates → Each FitsStage (gates_from gates floor)
  stages_fit_folded = each_kept FitsStage FitsStage (λ x. not (is_past gates floor x)) gates (λ j x sx passes keeps. keeps)

  -- the spec before a removal isn't past
  last_spec_stays : RisesInDate gates → Each RisesInGate gates → (i j : ℕ) (y x : GateEntry) → slice_get gates i ≡ Some y → slice_get gates j ≡ Some x → is_of_gate x y ≡ true → IsGone x.change
      → ((k : ℕ) (z : GateEntry) → i < k → k < j → slice_get gates k ≡ Some z → is_of_gate x z ≡ false) → ¬ IsPast gates floor y
  last_spec_stays rise all i j y x sy sx of gone between past =
      let some : Any (IsLaterSpec floor y) gates = past.1 in
      let k : ℕ = some.0 in
      let z : GateEntry = some.1 in
      let is : IsLaterSpec floor y z = some.4 in
      let sz : slice_get gates k ≡ Some z = any_stands (IsLaterSpec floor y) gates some in
      let named : x.name ≡ z.name = (bytes_eq-Decides x.name y.name).0 of ∙ sym is.named in
      let later : y.since < z.since = is.later in
      let rises : (a b : ℕ) (v w : GateEntry) → a < b → slice_get gates a ≡ Some v → slice_get gates b ≡ Some w → v.name ≡ w.name → v.since < w.since =
      λ (a b : ℕ) (v w : GateEntry) (less : a < b) (sv : slice_get gates a ≡ Some v) (sw : slice_get gates b ≡ Some w) (e : v.name ≡ w.name). pair_at (λ (c d : GateEntry). c.name ≡ d.name → c.since < d.since) gates a b v w rise less sv sw e in
      elim (cases_order k j) [
        | inl here ↦
            let equal : z ≡ x = some_injective z x (sym sz ∙ subst (λ (m : ℕ). slice_get gates m ≡ Some x) (sym here) sx) in
            not_gone z.change is.spec (subst (λ (w : GateEntry). IsGone w.change) (sym equal) gone)
        | inr (inl before) ↦ elim (cases_order k i) [
          | inl here ↦
              let equal : z ≡ y = some_injective z y (sym sz ∙ subst (λ (m : ℕ). slice_get gates m ≡ Some y) (sym here) sy) in
              let same : z.since ≡ y.since = ap (λ (w : GateEntry). w.since) equal in
              absurd (omega arith)
          | inr (inl low) ↦
              let back : z.since < y.since = rises k i z y low sz sy is.named in
              absurd (omega arith)
          | inr (inr high) ↦ false≢true (sym (between k z high before sz) ∙ (bytes_eq-Decides x.name z.name).1 named)
        ]
        | inr (inr after) ↦ no_removal_before gates all j k x z after sx sz named gone
      ]

  ripe_stays : RisesInDate gates → Each RisesInGate gates → (j : ℕ) (x : GateEntry) → slice_get gates j ≡ Some x → IsGone x.change → (found : Option GateEntry) → previous_of_gate (take j gates) x ≡ found → IsLast (is_of_gate x) gates j found
      → IsSomeAnd found (λ y. IsLockedSpec y.change × (y.since + 3 ≤ x.since)) → IsSomeAnd (previous_of_gate (filter (λ y. not (is_past gates floor y)) (take j gates)) x) (λ y. IsLockedSpec y.change × (y.since + 3 ≤ x.since))
  ripe_stays rise all j x sx gone None is last rule = absurd rule
  ripe_stays rise all j x sx gone (Some y) is last rule =
      let stays : not (is_past gates floor y) ≡ true = stays_tested gates floor y (last_spec_stays rise all last.place j y x last.stands sx last.passes gone last.none_between) in
      subst (λ (o : Option GateEntry). IsSomeAnd o (λ z. IsLockedSpec z.change × (z.since + 3 ≤ x.since))) (sym (last_stays (is_of_gate x) (λ z. not (is_past gates floor z)) (take j gates) y is stays)) rule

  ripe_folded : (x : GateEntry) (change : GateChange) (whole left : Option GateEntry)
      → (IsGone change → IsSomeAnd whole (λ y. IsLockedSpec y.change × (y.since + 3 ≤ x.since)) → IsSomeAnd left (λ y. IsLockedSpec y.change × (y.since + 3 ≤ x.since)))
      → IsRipe whole x.since change → IsRipe left x.since change
  ripe_folded x (Spec stage default locked) whole left removal rule = tt
  ripe_folded x Gone whole left removal rule = removal tt rule

  -- HR5
  pub removals_ripe_folded : RisesInDate gates → Each RisesInGate gates → Each FollowsLockedSpec gates → Each FollowsLockedSpec (gates_from gates floor)
  removals_ripe_folded rise all =
      each_kept FollowsLockedSpec FollowsLockedSpec (λ x. not (is_past gates floor x)) gates
      (λ (j : ℕ) (x : GateEntry) (sx : slice_get gates j ≡ Some x) (passes : not (is_past gates floor x) ≡ true) (keeps : FollowsLockedSpec (take j gates) x).
      let within : j < length gates = slice_get_within gates j x sx in
      let at_most : j ≤ length gates = omega arith in
      ripe_folded x x.change (previous_of_gate (take j gates) x) (previous_of_gate (filter (λ y. not (is_past gates floor y)) (take j gates)) x)
      (λ gone rule. ripe_stays rise all j x sx gone (previous_of_gate (take j gates) x) refl (last_passing_is (is_of_gate x) gates j at_most) rule) keeps)

  -- a gate that is known by a release from the floor on has an entry that stays, known by it
  pub known_stays : (name : List ℕ) (e : ℕ) → floor ≤ e → Any (λ y. (y.name ≡ name) × (y.since ≤ e)) gates → Any (λ y. (y.name ≡ name) × (y.since ≤ e)) (gates_from gates floor)
  known_stays name e from some =
      let P : GateEntry → Type 0 = λ y. (y.name ≡ name) × (y.since ≤ e) in
      let x : GateEntry = some.1 in
      let named : x.name ≡ name = some.4.0 in
      let among : Contains gates x = (some.0, some.2, some.3) in
      elim (cases_Bool (is_past gates floor x)) [
        | inr stays ↦ Any-from P (gates_from gates floor) x (Contains-filter (λ y. not (is_past gates floor y)) gates x among (not_from_false (is_past gates floor x) stays)) some.4
        | inl past ↦
            let y = (past_said gates floor x past).1 in
            let is : IsLaterSpec floor x y.1 = y.4 in
            let found = heir_of gates floor y.1 (y.0, y.2, y.3) is.spec is.dated in
            let heir : IsHeir gates floor y.1 found.0 = found.1 in
            let by : found.0.since ≤ floor = heir.dated in
            Any-from P (gates_from gates floor) found.0 (Contains-filter (λ z. not (is_past gates floor z)) gates found.0 heir.among heir.stays) (heir.named ∙ is.named ∙ named, omega arith)
      ]

-- ---- tables

-- of the first list the second has some, and in place of each other one a later one of its gate, which is a spec
pub record IsThinned (xs ys : List GateEntry) : Type 0 where
  pub fewer : (y : GateEntry) → Contains ys y → Contains xs y
  pub heir : (x : GateEntry) → Contains xs x → (w : GateEntry) × Contains ys w × (w.name ≡ x.name) × (is_spec x.change ≡ true → is_spec w.change ≡ true) × ((w ≡ x) ⊎ (x.since < w.since))

thinned_specs : (xs ys : List GateEntry) → IsThinned xs ys → IsThinned (specs_of xs) (specs_of ys)
thinned_specs xs ys thin = record {
  fewer = λ y h. Contains-filter (λ z. is_spec z.change) xs y (thin.fewer y (Contains-from_filter (λ z. is_spec z.change) ys y h)) (passes_from_filter (λ z. is_spec z.change) ys y h);
  heir = λ (x : GateEntry) (h : Contains (specs_of xs) x).
      let spec : is_spec x.change ≡ true = passes_from_filter (λ z. is_spec z.change) xs x h in
      let w = thin.heir x (Contains-from_filter (λ z. is_spec z.change) xs x h) in
      (w.0, Contains-filter (λ z. is_spec z.change) ys w.0 w.1 (w.3 spec), w.2, w.3, w.4);
}

module _ (xs ys : List GateEntry) (thin : IsThinned xs ys) (name : List ℕ) where
  newest_down : (x : GateEntry) → IsNewest xs name x → IsNewest ys name x
  newest_down x is =
      let w = thin.heir x is.among in
      let named : w.0.name ≡ name = w.2 ∙ is.named in
      let top : w.0.since ≤ x.since = All-contains (λ z. z.name ≡ name → z.since ≤ x.since) xs w.0 is.newest (thin.fewer w.0 w.1) named in
      record {
        among = elim w.4 [ inl same ↦ subst (Contains ys) same w.1 | inr later ↦ absurd (omega arith) ];
        named = is.named;
        newest = all_from (λ z. z.name ≡ name → z.since ≤ x.since) ys (λ (z : GateEntry) (h : Contains ys z). All-contains (λ v. v.name ≡ name → v.since ≤ x.since) xs z is.newest (thin.fewer z h));
      }

  newest_up : (x : GateEntry) → IsNewest ys name x → IsNewest xs name x
  newest_up x is = record {
    among = thin.fewer x is.among;
    named = is.named;
    newest = all_from (λ z. z.name ≡ name → z.since ≤ x.since) xs (λ (z : GateEntry) (h : Contains xs z) (named : z.name ≡ name).
        let w = thin.heir z h in
        let top : w.0.since ≤ x.since = All-contains (λ v. v.name ≡ name → v.since ≤ x.since) ys w.0 is.newest w.1 (w.2 ∙ named) in
        elim w.4 [
          | inl same ↦ (let equal : w.0.since ≡ z.since = ap (λ (v : GateEntry). v.since) same in omega arith)
          | inr later ↦ omega arith
        ]);
  }

  pub has_down : HasGate xs name → HasGate ys name
  has_down some =
      let w = thin.heir some.1 (some.0, some.2, some.3) in
      Any-from (λ z. z.name ≡ name) ys w.0 w.1 (w.2 ∙ some.4)

  pub has_up : HasGate ys name → HasGate xs name
  has_up some = Any-from (λ z. z.name ≡ name) xs some.1 (thin.fewer some.1 (some.0, some.2, some.3)) some.4

default_down : (xs ys : List GateEntry) → IsThinned xs ys → (name : List ℕ) (value : Bool) → IsLastDefault xs name value → IsLastDefault ys name value
default_down xs ys thin name value (inl is) = inl (is.0, newest_down (specs_of xs) (specs_of ys) (thinned_specs xs ys thin) name is.0 is.1, is.2)
default_down xs ys thin name value (inr none) = inr ((λ some. none.0 (has_up (specs_of xs) (specs_of ys) (thinned_specs xs ys thin) name some)), none.1)

default_up : (xs ys : List GateEntry) → IsThinned xs ys → (name : List ℕ) (value : Bool) → IsLastDefault ys name value → IsLastDefault xs name value
default_up xs ys thin name value (inl is) = inl (is.0, newest_up (specs_of xs) (specs_of ys) (thinned_specs xs ys thin) name is.0 is.1, is.2)
default_up xs ys thin name value (inr none) = inr ((λ some. none.0 (has_down (specs_of xs) (specs_of ys) (thinned_specs xs ys thin) name some)), none.1)

pub same_where_thinned : (xs ys : List GateEntry) → IsThinned xs ys → AreSameGates xs ys
same_where_thinned xs ys thin = record {
  found = λ name stage default locked. (
    λ is. (is.0, newest_down xs ys thin name is.0 is.1, is.2),
    λ is. (is.0, newest_up xs ys thin name is.0 is.1, is.2),
  );
  removed = λ name value. (
    λ is. (is.0, newest_down xs ys thin name is.0 is.1, is.2, default_down xs ys thin name value is.3),
    λ is. (is.0, newest_up xs ys thin name is.0 is.1, is.2, default_up xs ys thin name value is.3),
  );
}

-- the tables of a release from the floor on are thinned
pub thinned_at : (gates : List GateEntry) (floor o : ℕ) → floor ≤ o → IsThinned (cutoff gates o) (cutoff (gates_from gates floor) o)
thinned_at gates floor o from = record {
  fewer = λ (y : GateEntry) (h : Contains (cutoff (gates_from gates floor) o) y).
      Contains-filter (λ z. nat_le z.since o) gates y
      (Contains-from_filter (λ z. not (is_past gates floor z)) gates y (Contains-from_filter (λ z. nat_le z.since o) (gates_from gates floor) y h))
      (passes_from_filter (λ z. nat_le z.since o) (gates_from gates floor) y h);
  heir = λ (x : GateEntry) (h : Contains (cutoff gates o) x).
      let among : Contains gates x = Contains-from_filter (λ z. nat_le z.since o) gates x h in
      elim (cases_Bool (is_past gates floor x)) [
        | inr stays ↦
            (x, Contains-filter (λ z. nat_le z.since o) (gates_from gates floor) x (Contains-filter (λ z. not (is_past gates floor z)) gates x among (not_from_false (is_past gates floor x) stays)) (passes_from_filter (λ z. nat_le z.since o) gates x h), refl, (λ spec. spec), inl refl)
        | inl past ↦
            let y = (past_said gates floor x past).1 in
            let is : IsLaterSpec floor x y.1 = y.4 in
            let found = heir_of gates floor y.1 (y.0, y.2, y.3) is.spec is.dated in
            let heir : IsHeir gates floor y.1 found.0 = found.1 in
            let by : found.0.since ≤ floor = heir.dated in
            let later : x.since < y.1.since = is.later in
            let not_before : y.1.since ≤ found.0.since = heir.later in
            let after : x.since < found.0.since = omega arith in
            (found.0, Contains-filter (λ z. nat_le z.since o) (gates_from gates floor) found.0 (Contains-filter (λ z. not (is_past gates floor z)) gates found.0 heir.among heir.stays) (le-leb found.0.since o (omega arith)), heir.named ∙ is.named, (λ spec. heir.spec), inr after)
      ];
}
