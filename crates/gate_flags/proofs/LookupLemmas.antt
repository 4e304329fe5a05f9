-- What is looked up by name, with one entry more.
use Rattle.std.proofs.Common.{◌≡◌, ◌↔◌, inl, inr, ℕ, ◌+◌, ◌<◌, Bool, Any, true, false, List, [], ◌∷◌, ◌++◌, All, length, take, get_or, Option, Some, None, IfSome, refl, sym, ◌∙◌, ap, subst}
use Rattle.std.specs.Ordering.{nat_cmp}
use Rattle.std.specs.Option.{option_map_or}
use Rattle.std.specs.Cmp.Lexicographic.{slice_cmp}
use Rattle.std.specs.BTreeMap.{BTreeMap, IsOrdered, get, Updates, is_at}
use Rattle.std.proofs.lemmas.Bool.{cases_Bool, cond-true}
use Rattle.gate_spec.specs.declared.entry.GateEntry.{GateEntry}
use Rattle.gate_spec.specs.declared.entry.SpecAt.{SpecAt}
use Rattle.gate_spec.specs.declared.entry.SpecAt.TheVariants.{Never}
use Rattle.gate_spec.specs.Gates.{RisesInDate, IsSpecAt}
use Rattle.gate_spec.proofs.GateLemmas.{spec_at_read, spec_at_passed}
use Rattle.gate_flags.specs.Lookups.{spec_in, KnowsGates}
use Rattle.gate_flags.specs.declared.known.Known.{Known}
use Rattle.gate_flags.specs.Values.{Gates, AreInOrder, HasValue}
use Rattle.flag_text.proofs.LastLemmas.{at_same, at_itself}

-- one more entry of the history
pub known_more : (xs : List GateEntry) (k : ℕ) (x : GateEntry) (e : ℕ) (m n : BTreeMap (List ℕ) Known) (gate : Known) → RisesInDate xs → k < length xs → x ≡ get_or xs k x → KnowsGates (take k xs) e m
    → gate.name.now ≡ x.name
    → ((earlier : List GateEntry) → All (λ y. y.name ≡ x.name → y.since < x.since) earlier → IsSpecAt earlier x.name e (spec_in m x.name) → IsSpecAt (earlier ++ x ∷ []) x.name e gate.spec)
    → IsOrdered (slice_cmp nat_cmp) n → Updates (slice_cmp nat_cmp) m n x.name (Some gate) → KnowsGates (take (k + 1) xs) e n
known_more xs k x e m n gate up below is known named step order updates = record {
  order = order;
  names = λ q. elim (cases_Bool (is_at (slice_cmp nat_cmp x.name) q)) [
    | inl here ↦
        let got : get (slice_cmp nat_cmp) n q ≡ Some gate = updates.0 q ∙ cond-true (is_at (slice_cmp nat_cmp x.name) q) (Some gate) (get (slice_cmp nat_cmp) m q) here in
        subst (λ o. IfSome o (λ g. g.name.now ≡ q)) (sym got) (named ∙ at_same x.name q here)
    | inr apart ↦ subst (λ o. IfSome o (λ g. g.name.now ≡ q)) (sym (updates.2 q apart)) (known.names q)
  ];
  specs = λ q. elim (cases_Bool (is_at (slice_cmp nat_cmp x.name) q)) [
    | inl here ↦
        let got : get (slice_cmp nat_cmp) n q ≡ Some gate = updates.0 q ∙ cond-true (is_at (slice_cmp nat_cmp x.name) q) (Some gate) (get (slice_cmp nat_cmp) m q) here in
        let same : x.name ≡ q = at_same x.name q here in
        let before : IsSpecAt (take k xs) q e (spec_in m x.name) = subst (λ s. IsSpecAt (take k xs) q e (spec_in m s)) (sym same) (known.specs q) in
        subst (λ o. IsSpecAt (take (k + 1) xs) q e (option_map_or (λ g. g.spec) o Never)) (sym got)
        (spec_at_read xs k x q e (spec_in m x.name) gate.spec up below is same before step)
    | inr apart ↦
        let other : x.name ≡ q → ⊥ = λ same. absurd (let yes = at_itself x.name q same in let clash : true ≡ false = sym yes ∙ apart in cc) in
        subst (λ o. IsSpecAt (take (k + 1) xs) q e (option_map_or (λ g. g.spec) o Never)) (sym (updates.2 q apart))
        (spec_at_passed xs k x q e (spec_in m q) below is other (known.specs q))
  ];
}

-- the same, as the loop has it: the key is the entry's name, and s is what the map had
pub known_at : (xs : List GateEntry) (k : ℕ) (x : GateEntry) (e : ℕ) (m n : BTreeMap (List ℕ) Known) (gate : Known) (key : List ℕ) (s : SpecAt) → RisesInDate xs → k < length xs → x ≡ get_or xs k x → KnowsGates (take k xs) e m
    → key ≡ x.name → s ≡ spec_in m key → gate.name.now ≡ x.name
    → ((earlier : List GateEntry) → All (λ y. y.name ≡ x.name → y.since < x.since) earlier → IsSpecAt earlier x.name e s → IsSpecAt (earlier ++ x ∷ []) x.name e gate.spec)
    → IsOrdered (slice_cmp nat_cmp) n → Updates (slice_cmp nat_cmp) m n key (Some gate) → KnowsGates (take (k + 1) xs) e n
known_at xs k x e m n gate key s up below is known named read same step order updates =
    known_more xs k x e m n gate up below is known same
    (λ earlier older before. step earlier older (subst (λ t. IsSpecAt earlier x.name e t) (sym (read ∙ ap (spec_in m) named)) before))
    order (subst (λ q. Updates (slice_cmp nat_cmp) m n q (Some gate)) named updates)

-- what the release knows of a name, as it was looked up by the same bytes
pub knows_at : (entries : List GateEntry) (e : ℕ) (known : BTreeMap (List ℕ) Known) (name key : List ℕ) (s : SpecAt) → KnowsGates entries e known → key ≡ name → s ≡ spec_in known key → IsSpecAt entries name e s
knows_at entries e known name key s knows same read = subst (λ t. IsSpecAt entries name e t) (sym (read ∙ ap (spec_in known) same)) (knows.specs name)

-- the value that a row has, where there is one
pub value_of_known : (gates : Gates) (name : List ℕ) (value : Bool) → AreInOrder gates → ((v : Bool) → Some value ≡ Some v ↔ Any (λ r. (r.name ≡ name) × (r.value ≡ v)) gates.rows) → (v : Bool) → Some value ≡ Some v ↔ HasValue gates name v
value_of_known gates name value order known v = (
  λ same. inl ((known v).0 same),
  λ has. elim has [
    | inl row ↦ (known v).1 row
    | inr gone ↦
        let row = (known value).0 refl in
        absurd (order.apart row.1 gone.1 (row.0, row.2, row.3) (gone.0, gone.2, gone.3) (row.4.0 ∙ sym gone.4.0))
  ],
)

-- the value that a removed gate has, where no row has the name
pub value_of_gone : (gates : Gates) (name : List ℕ) (o : Option Bool) → ((v : Bool) → None ≡ Some v ↔ Any (λ r. (r.name ≡ name) × (r.value ≡ v)) gates.rows) → ((v : Bool) → o ≡ Some v ↔ Any (λ r. (r.name ≡ name) × (r.value ≡ v)) gates.removed) → (v : Bool) → o ≡ Some v ↔ HasValue gates name v
value_of_gone gates name o unknown gone v = (
  λ same. inr ((gone v).0 same),
  λ has. elim has [
    | inl row ↦ absurd (let clash : None ≡ Some v = (unknown v).1 row in cc)
    | inr there ↦ (gone v).1 there
  ],
)
