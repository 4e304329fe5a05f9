-- The rules on gates are kept where a history is cut.
use Rattle.std.proofs.Common.{ℕ, ◌≡◌, ◌<◌, ◌≤◌, List, true, Some, take, sym, subst, arith}
use Rattle.std.specs.Prelude.{nat_le, slice_get, Option}
use Rattle.std.proofs.lemmas.Bool.{leb-true, le-leb}
use Rattle.std.proofs.lemmas.Slice.Eq.{bytes_eq-Decides}
use Rattle.gate_spec.specs.Gates.{RisesInDate, cutoff}
use Rattle.gate_spec.specs.declared.entry.GateEntry.{GateEntry}
use Rattle.schemas.specs.GateRules.{is_of_gate, previous_of_gate, RisesFrom, RisesInGate, FitsStage, IsRipe, FollowsLockedSpec}
use Rattle.schemas.specs.Places.{Each}
use Rattle.schemas.specs.Rules.{IsGateBy}
use Rattle.history_cut.proofs.KeptLemmas.{each_kept, all_before, last_kept, pair_at}

module _ (gates : List GateEntry) (o : ℕ) where
  -- the entries of a gate before one of its entries are dated before it
  earlier_known : RisesInDate gates → (j k : ℕ) (x y : GateEntry) → k < j → slice_get gates k ≡ Some y → slice_get gates j ≡ Some x → x.since ≤ o → is_of_gate x y ≡ true → nat_le y.since o ≡ true
  earlier_known rise j k x y less sy sx by same =
      let named : x.name ≡ y.name = (bytes_eq-Decides x.name y.name).0 same in
      let before : y.since < x.since = pair_at (λ (a b : GateEntry). a.name ≡ b.name → a.since < b.since) gates k j y x rise less sy sx (sym named) in
      le-leb y.since o (omega arith)

  same_previous : RisesInDate gates → (j : ℕ) (x : GateEntry) → slice_get gates j ≡ Some x → nat_le x.since o ≡ true → previous_of_gate (cutoff (take j gates) o) x ≡ previous_of_gate (take j gates) x
  same_previous rise j x sx passes =
      last_kept (is_of_gate x) (λ y. nat_le y.since o) (take j gates)
      (all_before (λ y. is_of_gate x y ≡ true → nat_le y.since o ≡ true) gates j (λ (k : ℕ) (y : GateEntry) (less : k < j) (sy : slice_get gates k ≡ Some y) (same : is_of_gate x y ≡ true).
      earlier_known rise j k x y less sy sx (leb-true x.since o passes) same))

  -- HR2
  pub gates_dated : (last : ℕ) → Each (IsGateBy last) gates → Each (IsGateBy o) (cutoff gates o)
  gates_dated last = each_kept (IsGateBy last) (IsGateBy o) (λ x. nat_le x.since o) gates (λ j x sx passes keeps. leb-true x.since o passes)

  -- HR3
  pub gates_rise_cut : RisesInDate gates → Each RisesInGate gates → Each RisesInGate (cutoff gates o)
  gates_rise_cut rise = each_kept RisesInGate RisesInGate (λ x. nat_le x.since o) gates (λ j x sx passes keeps. subst (λ (p : Option GateEntry). RisesFrom p x.since) (sym (same_previous rise j x sx passes)) keeps)

  -- HR4
  pub stages_fit_cut : Each FitsStage gates → Each FitsStage (cutoff gates o)
  stages_fit_cut = each_kept FitsStage FitsStage (λ x. nat_le x.since o) gates (λ j x sx passes keeps. keeps)

  -- HR5
  pub removals_ripe_cut : RisesInDate gates → Each FollowsLockedSpec gates → Each FollowsLockedSpec (cutoff gates o)
  removals_ripe_cut rise = each_kept FollowsLockedSpec FollowsLockedSpec (λ x. nat_le x.since o) gates (λ j x sx passes keeps. subst (λ (p : Option GateEntry). IsRipe p x.since x.change) (sym (same_previous rise j x sx passes)) keeps)
