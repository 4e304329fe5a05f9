-- The rows of gates are those of the tables, in order.
use Rattle.std.proofs.Common.{◌≡◌, ◌↔◌, ◌⊎◌, inl, inr, ℕ, ◌<◌, Ordering, Less, Bool, List, [], ◌∷◌, Contains, map, Option, Some, None, IfSome, unwrap_or, codes, refl, sym, ◌∙◌, ap, subst, arith}
use Rattle.std.specs.Ordering.{nat_cmp}
use Rattle.std.specs.Option.{option_map, option_and_then, option_map_or}
use Rattle.std.specs.List.{find, filter_map, cons_option, AllByRecursion}
use Rattle.std.specs.List.Sorted.{IsStrictlySortedBy}
use Rattle.std.specs.Str.{bytes_eq}
use Rattle.std.specs.Cmp.Lexicographic.{slice_cmp}
use Rattle.std.specs.BTreeMap.{BTreeMap, get, values}
use Rattle.std.proofs.lemmas.Cmp.{nat_list_cmp_total}
use Rattle.std.proofs.lemmas.List.Elements.{Contains-append_left, Contains-append_right, Contains-append_cases, Contains-push_cases, Contains-push}
use Rattle.std.proofs.lemmas.Map.Lookups.{exact_bytes}
use Rattle.std.proofs.lemmas.Map.Views.{btree_map_get_iff}
use Rattle.std.proofs.lemmas.Map.Made.{Contains-from_values_of, Contains-values_of}
use Rattle.basis.proofs.OrderLemmas.{one_named}
use Rattle.gate_spec.specs.declared.entry.GateEntry.{GateEntry}
use Rattle.gate_spec.specs.declared.entry.Stage.{Stage}
use Rattle.gate_spec.specs.declared.entry.Stage.TheVariants.{Alpha, Beta, Ga, Deprecated}
use Rattle.gate_spec.specs.declared.entry.SpecAt.{SpecAt}
use Rattle.gate_spec.specs.declared.entry.SpecAt.TheVariants.{Found, PreAlpha, Removed, Never}
use Rattle.gate_spec.specs.Gates.{RisesInDate, cutoff, IsRemovedIn, IsSpecAt}
use Rattle.gate_spec.proofs.GateLemmas.{spec_at_one}
use Rattle.flag_text.specs.Pieces.{FlagPiece, last_pieces}
use Rattle.gate_flags.specs.Values.{all_given, gate_value, IsRow, Gates, AreInOrder, AreGateValues}
use Rattle.gate_flags.specs.Lookups.{spec_in, KnowsGates, all_in, value_in, row_of, removed_of, rows_of, removed_gates_of}
use Rattle.flag_text.specs.Said.{said, last_said, HasSaid, said_in}
use Rattle.flag_text.specs.declared.vocabulary.Vocabulary.TheVariants.{Go}
use Rattle.gate_flags.specs.declared.known.Known.{Known}
use Rattle.gate_flags.specs.declared.values.GateRow.{GateRow}
use Rattle.gate_flags.specs.declared.values.RemovedGate.{RemovedGate}

from_one : {X : Type 0} (y x : X) → Contains (y ∷ []) x → y ≡ x
from_one y x h = elim (Contains-push_cases [] y x h) [ inl none ↦ absurd (let below : none.0 < 0 = none.1 in omega arith) | inr e ↦ e ]

from_cons_option : {X : Type 0} (o : Option X) (ys : List X) (y : X) → Contains (cons_option o ys) y → (o ≡ Some y) ⊎ Contains ys y
from_cons_option None ys y h = inr h
from_cons_option (Some z) ys y h = elim (Contains-append_cases (z ∷ []) ys y h) [ inl here ↦ inl (ap Some (from_one z y here)) | inr later ↦ inr later ]

to_cons_option : {X : Type 0} (o : Option X) (ys : List X) (y : X) → (o ≡ Some y) ⊎ Contains ys y → Contains (cons_option o ys) y
to_cons_option None ys y (inl e) = absurd cc
to_cons_option None ys y (inr h) = h
to_cons_option (Some z) ys y (inl e) = let same : z ≡ y = cc in subst (λ v. Contains (z ∷ ys) v) same (Contains-append_left (z ∷ []) ys z (Contains-push [] z))
to_cons_option (Some z) ys y (inr h) = Contains-append_right (z ∷ []) ys y h

pub from_filter_map : {X Y : Type 0} (f : X → Option Y) (xs : List X) (y : Y) → Contains (filter_map f xs) y → (x : X) × Contains xs x × (f x ≡ Some y)
from_filter_map f [] y h = absurd (let below : h.0 < 0 = h.1 in omega arith)
from_filter_map f (x ∷ xs) y h =
    elim (from_cons_option (f x) (filter_map f xs) y h) [
      | inl e ↦ (x, Contains-append_left (x ∷ []) xs x (Contains-push [] x), e)
      | inr later ↦ let found = from_filter_map f xs y later in (found.0, Contains-append_right (x ∷ []) xs found.0 found.1, found.2)
    ]

pub to_filter_map : {X Y : Type 0} (f : X → Option Y) (xs : List X) (x : X) (y : Y) → Contains xs x → f x ≡ Some y → Contains (filter_map f xs) y
to_filter_map f [] x y h e = absurd (let below : h.0 < 0 = h.1 in omega arith)
to_filter_map f (z ∷ zs) x y h e =
    elim (Contains-append_cases (z ∷ []) zs x h) [
      | inl here ↦ to_cons_option (f z) (filter_map f zs) y (inl (ap f (from_one z x here) ∙ e))
      | inr later ↦ to_cons_option (f z) (filter_map f zs) y (inr (to_filter_map f zs x y later e))
    ]

module _ {A R K : Type 0} (cmp : K → K → Ordering) (f : A → Option R) (name : R → K) (key : A → K) (named : (a : A) (r : R) → f a ≡ Some r → name r ≡ key a) where
  below_option : (k : K) (a : A) (o : Option R) (rs : List R) → f a ≡ o → cmp k (key a) ≡ Less → AllByRecursion (λ y. cmp k y ≡ Less) (map name rs) → AllByRecursion (λ y. cmp k y ≡ Less) (map name (cons_option o rs))
  below_option k a None rs e less h = h
  below_option k a (Some r) rs e less h = (subst (λ y. cmp k y ≡ Less) (sym (named a r e)) less, h)

  below_all : (k : K) (xs : List A) → AllByRecursion (λ y. cmp k y ≡ Less) (map key xs) → AllByRecursion (λ y. cmp k y ≡ Less) (map name (filter_map f xs))
  below_all k [] h = tt
  below_all k (a ∷ xs) h = below_option k a (f a) (filter_map f xs) refl h.0 (below_all k xs h.1)

  sorted_option : (a : A) (o : Option R) (xs : List A) → f a ≡ o → AllByRecursion (λ y. cmp (key a) y ≡ Less) (map key xs) → IsStrictlySortedBy cmp (map name (filter_map f xs)) → IsStrictlySortedBy cmp (map name (cons_option o (filter_map f xs)))
  unfolding IsStrictlySortedBy
  sorted_option a None xs e less h = h
  sorted_option a (Some r) xs e less h = (subst (λ k. AllByRecursion (λ y. cmp k y ≡ Less) (map name (filter_map f xs))) (sym (named a r e)) (below_all (key a) xs less), h)

  -- the names of what is kept rise where the keys do
  pub filter_map_rises : (xs : List A) → IsStrictlySortedBy cmp (map key xs) → IsStrictlySortedBy cmp (map name (filter_map f xs))
  unfolding IsStrictlySortedBy
  filter_map_rises [] h = tt
  filter_map_rises (a ∷ xs) h = sorted_option a (f a) xs refl h.0 (filter_map_rises xs h.1)

and_then-option_map : {T U : Type 0} (f : T → Option U) (o : Option T) → option_and_then (λ (b : Option U). b) (option_map f o) ≡ option_and_then f o
and_then-option_map f None = refl
and_then-option_map f (Some x) = refl

given_in : (ps : List FlagPiece) (m : BTreeMap (List ℕ) (Option Bool)) (name : List ℕ) → HasSaid Go ps m → said_in m name ≡ last_said Go ps name
given_in ps m name has = ap (option_and_then (λ (b : Option Bool). b)) (has name) ∙ and_then-option_map (said Go) (find (λ p. bytes_eq p.name name) (last_pieces ps))

all_given_in : (ps : List FlagPiece) (m : BTreeMap (List ℕ) (Option Bool)) (stage : Stage) → HasSaid Go ps m → all_in m stage ≡ all_given ps stage
all_given_in ps m Alpha has = given_in ps m (codes "AllAlpha") has
all_given_in ps m Beta has = given_in ps m (codes "AllBeta") has
all_given_in ps m Ga has = refl
all_given_in ps m Deprecated has = refl

value_is : (ps : List FlagPiece) (m : BTreeMap (List ℕ) (Option Bool)) (name : List ℕ) (stage : Stage) (default : Bool) → HasSaid Go ps m → value_in m name stage default ≡ gate_value ps name stage default
value_is ps m name stage default has =
    ap (λ o. unwrap_or o (unwrap_or (all_in m stage) default)) (given_in ps m name has)
    ∙ ap (λ o. unwrap_or (last_said Go ps name) (unwrap_or o default)) (all_given_in ps m stage has)

row_from : (m : BTreeMap (List ℕ) (Option Bool)) (name : List ℕ) (s : SpecAt) (row : GateRow) → row_of m name s ≡ Some row
    → (s ≡ Found row.stage row.default row.locked) × (row.name ≡ name) × (row.value ≡ value_in m row.name row.stage row.default)
row_from m name (Found stage default locked) row e =
    let made : GateRow = record { name = name; stage = stage; default = default; locked = locked; value = value_in m name stage default } in
    let same : made ≡ row = cc in
    (ap (λ r. Found r.stage r.default r.locked) same, sym (ap (λ r. r.name) same), subst (λ r. r.value ≡ value_in m r.name r.stage r.default) same refl)
row_from m name (Removed v) row e = absurd cc
row_from m name PreAlpha row e = absurd cc
row_from m name Never row e = absurd cc

row_to : (m : BTreeMap (List ℕ) (Option Bool)) (row : GateRow) → row.value ≡ value_in m row.name row.stage row.default → row_of m row.name (Found row.stage row.default row.locked) ≡ Some row
row_to m row h = ap (λ v. Some (record row { value = v })) (sym h)

removed_from : (name : List ℕ) (s : SpecAt) (gate : RemovedGate) → removed_of name s ≡ Some gate → (s ≡ Removed gate.value) × (gate.name ≡ name)
removed_from name (Removed v) gate e =
    let made : RemovedGate = record { name = name; value = v } in
    let same : made ≡ gate = cc in
    (ap (λ g. Removed g.value) same, sym (ap (λ g. g.name) same))
removed_from name (Found a b c) gate e = absurd cc
removed_from name PreAlpha gate e = absurd cc
removed_from name Never gate e = absurd cc

names_are : (es : List (List ℕ × Known)) → ((key : List ℕ) (k : Known) → Contains es (key, k) → k.name.now ≡ key) → map (λ (p : List ℕ × Known). p.0) es ≡ map (λ (k : Known). k.name.now) (map (λ (p : List ℕ × Known). p.1) es)
names_are [] h = refl
names_are (p ∷ ps) h =
    let here : p.1.name.now ≡ p.0 = h p.0 p.1 (Contains-append_left (p ∷ []) ps p (Contains-push [] p)) in
    let rest = names_are ps (λ key k c. h key k (Contains-append_right (p ∷ []) ps (key, k) c)) in
    ap (λ n. n ∷ map (λ (q : List ℕ × Known). q.0) ps) (sym here) ∙ ap (λ ns. p.1.name.now ∷ ns) rest

module _ (entries : List GateEntry) (e : ℕ) (known : BTreeMap (List ℕ) Known) (knows : KnowsGates entries e known) where
  name_at : (key : List ℕ) (k : Known) → get (slice_cmp nat_cmp) known key ≡ Some k → k.name.now ≡ key
  name_at key k got = subst (λ o. IfSome o (λ g. g.name.now ≡ key)) got (knows.names key)

  got_at : (k : Known) → Contains (values known) k → get (slice_cmp nat_cmp) known k.name.now ≡ Some k
  got_at k h =
      let entry = Contains-from_values_of known.entries k h in
      let got = (btree_map_get_iff nat_list_cmp_total exact_bytes known knows.order entry.0 k).1 entry.1 in
      subst (λ q. get (slice_cmp nat_cmp) known q ≡ Some k) (sym (name_at entry.0 k got)) got

  -- what the map has is what the release knows
  pub spec_from : (k : Known) → Contains (values known) k → IsSpecAt entries k.name.now e k.spec
  spec_from k h = subst (λ o. IsSpecAt entries k.name.now e (option_map_or (λ g. g.spec) o Never)) (got_at k h) (knows.specs k.name.now)

  in_map : (name : List ℕ) (s : SpecAt) (o : Option Known) → get (slice_cmp nat_cmp) known name ≡ o → option_map_or (λ g. g.spec) o Never ≡ s → (s ≡ Never → ⊥) → (k : Known) × Contains (values known) k × (k.name.now ≡ name) × (k.spec ≡ s)
  in_map name s None got is some = absurd (some (sym is))
  in_map name s (Some k) got is some =
      (k, Contains-values_of known.entries name k ((btree_map_get_iff nat_list_cmp_total exact_bytes known knows.order name k).0 got), name_at name k got, is)

  -- what the release knows is in the map
  pub spec_to : (name : List ℕ) (s : SpecAt) → RisesInDate entries → IsSpecAt entries name e s → (s ≡ Never → ⊥) → (k : Known) × Contains (values known) k × (k.name.now ≡ name) × (k.spec ≡ s)
  spec_to name s up is some = in_map name s (get (slice_cmp nat_cmp) known name) refl (spec_at_one entries name e (spec_in known name) s up (knows.specs name) is) some

  names_rise : IsStrictlySortedBy (slice_cmp nat_cmp) (map (λ (k : Known). k.name.now) (values known))
  names_rise = subst (IsStrictlySortedBy (slice_cmp nat_cmp)) (names_are known.entries (λ key k h. name_at key k ((btree_map_get_iff nat_list_cmp_total exact_bytes known knows.order key k).1 h))) knows.order

  pub rows_are : (ps : List FlagPiece) (m : BTreeMap (List ℕ) (Option Bool)) → RisesInDate entries → HasSaid Go ps m → (row : GateRow) → Contains (rows_of m known) row ↔ IsRow (cutoff entries e) ps row
  rows_are ps m up has row = (
    λ h.
        let found = from_filter_map (λ k. row_of m k.name.now k.spec) (values known) row h in
        let k : Known = found.0 in
        let is = row_from m k.name.now k.spec row found.2 in
        record {
          found = subst (λ n. IsSpecAt entries n e (Found row.stage row.default row.locked)) (sym is.1) (subst (λ s. IsSpecAt entries k.name.now e s) is.0 (spec_from k found.1));
          value = is.2 ∙ value_is ps m row.name row.stage row.default has;
        },
    λ h.
        let known_to = spec_to row.name (Found row.stage row.default row.locked) up h.found (λ same. absurd cc) in
        let k : Known = known_to.0 in
        to_filter_map (λ k. row_of m k.name.now k.spec) (values known) k row known_to.1
        (ap (λ n. row_of m n k.spec) known_to.2 ∙ ap (row_of m row.name) known_to.3 ∙ row_to m row (h.value ∙ sym (value_is ps m row.name row.stage row.default has))),
  )

  pub removed_are : RisesInDate entries → (gate : RemovedGate) → Contains (removed_gates_of known) gate ↔ IsRemovedIn (cutoff entries e) gate.name gate.value
  removed_are up gate = (
    λ h.
        let found = from_filter_map (λ k. removed_of k.name.now k.spec) (values known) gate h in
        let k : Known = found.0 in
        let is = removed_from k.name.now k.spec gate found.2 in
        subst (λ n. IsSpecAt entries n e (Removed gate.value)) (sym is.1) (subst (λ s. IsSpecAt entries k.name.now e s) is.0 (spec_from k found.1)),
    λ h.
        let known_to = spec_to gate.name (Removed gate.value) up h (λ same. absurd cc) in
        let k : Known = known_to.0 in
        to_filter_map (λ k. removed_of k.name.now k.spec) (values known) k gate known_to.1
        (ap (λ n. removed_of n k.spec) known_to.2 ∙ ap (removed_of gate.name) known_to.3),
  )

  -- one gate isn't both known and removed
  known_or_removed : (m : BTreeMap (List ℕ) (Option Bool)) (row : GateRow) (gate : RemovedGate) → Contains (rows_of m known) row → Contains (removed_gates_of known) gate → row.name ≡ gate.name → ⊥
  known_or_removed m row gate h g same =
      let found = from_filter_map (λ k. row_of m k.name.now k.spec) (values known) row h in
      let gone = from_filter_map (λ k. removed_of k.name.now k.spec) (values known) gate g in
      let k : Known = found.0 in
      let l : Known = gone.0 in
      let is = row_from m k.name.now k.spec row found.2 in
      let was = removed_from l.name.now l.spec gate gone.2 in
      let one : k ≡ l = one_named (λ (x : Known). x.name.now) (values known) k l names_rise found.1 gone.1 (sym is.1 ∙ same ∙ was.1) in
      let clash : Found row.stage row.default row.locked ≡ Removed gate.value = sym is.0 ∙ ap (λ (x : Known). x.spec) one ∙ was.0 in
      cc

  pub in_order : (m : BTreeMap (List ℕ) (Option Bool)) → AreInOrder (record { rows = rows_of m known; removed = removed_gates_of known })
  in_order m = record {
    rows = filter_map_rises (slice_cmp nat_cmp) (λ k. row_of m k.name.now k.spec) (λ r. r.name) (λ (k : Known). k.name.now) (λ k r h. (row_from m k.name.now k.spec r h).1) (values known) names_rise;
    removed = filter_map_rises (slice_cmp nat_cmp) (λ k. removed_of k.name.now k.spec) (λ r. r.name) (λ (k : Known). k.name.now) (λ k r h. (removed_from k.name.now k.spec r h).1) (values known) names_rise;
    apart = known_or_removed m;
  }

  pub values_are : (ps : List FlagPiece) (m : BTreeMap (List ℕ) (Option Bool)) (gates : Gates) → RisesInDate entries → HasSaid Go ps m → gates.rows ≡ rows_of m known → gates.removed ≡ removed_gates_of known → AreGateValues (cutoff entries e) ps gates
  values_are ps m gates up has rows removed =
      let made : Gates = record { rows = rows_of m known; removed = removed_gates_of known } in
      let same : made ≡ gates = λ i. record { rows = sym rows i; removed = sym removed i } in
      subst (AreGateValues (cutoff entries e) ps) same (record { order = in_order m; rows = rows_are ps m up has; removed = removed_are up })

  pub made_in_order : (m : BTreeMap (List ℕ) (Option Bool)) (rows : List GateRow) (removed : List RemovedGate) → rows ≡ rows_of m known → removed ≡ removed_gates_of known → AreInOrder (record { rows = rows; removed = removed })
  made_in_order m rows removed h k =
      let made : Gates = record { rows = rows_of m known; removed = removed_gates_of known } in
      let same : made ≡ record { rows = rows; removed = removed } = λ i. record { rows = sym h i; removed = sym k i } in
      subst AreInOrder same (in_order m)
