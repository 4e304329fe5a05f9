use Rattle.std.proofs.Common.{◌≡◌, List, refl, sym, subst, inl, inr}
use Rattle.schemas.specs.Dated.{Dated}
use Rattle.gate_spec.specs.declared.entry.GateEntry.{GateEntry}
use Rattle.schemas.specs.Places.{Each, Breaks, IsLeast}
use Rattle.schemas.specs.GateRules.{RisesInGate, FitsStage, FollowsLockedSpec}
use Rattle.schemas.specs.Rules.{gate_checks, FindsFault}
use Rattle.schemas.proofs.PlaceLemmas.{unbroken}
use Rattle.history_rules.proofs.accept.first_gate_fault.Goals as goal

pub returns-in-Some : goal.returns-in-Some
returns-in-Some c = λ (h : Dated) (same : h.gates ≡ c.args.gates.now).
    subst (FindsFault h gate_checks) (sym c.broken.ensures) (inl (refl, refl, subst (λ (l : List GateEntry). IsLeast (Breaks RisesInGate l) c.in-Some.index) (sym same) c.in-Some.ensures))

pub returns-in-Some-first_unfit_spec : goal.returns-in-Some-first_unfit_spec
returns-in-Some-first_unfit_spec c = λ (h : Dated) (same : h.gates ≡ c.args.gates.now).
    subst (FindsFault h gate_checks) (sym c.broken-in-Some-first_unfit_spec.ensures) (inr (unbroken RisesInGate h.gates (subst (λ (l : List GateEntry). Each RisesInGate l) (sym same) c.in_default.ensures), inl (refl, refl, subst (λ (l : List GateEntry). IsLeast (Breaks FitsStage l) c.in-Some-first_unfit_spec.index) (sym same) c.in-Some-first_unfit_spec.ensures)))

pub returns-in-Some-first_unripe_removal : goal.returns-in-Some-first_unripe_removal
returns-in-Some-first_unripe_removal c = λ (h : Dated) (same : h.gates ≡ c.args.gates.now).
    subst (FindsFault h gate_checks) (sym c.broken-in-Some-first_unripe_removal.ensures) (inr (unbroken RisesInGate h.gates (subst (λ (l : List GateEntry). Each RisesInGate l) (sym same) c.in_default.ensures), inr (unbroken FitsStage h.gates (subst (λ (l : List GateEntry). Each FitsStage l) (sym same) c.in_default-first_unfit_spec.ensures), inl (refl, refl, subst (λ (l : List GateEntry). IsLeast (Breaks FollowsLockedSpec l) c.in-Some-first_unripe_removal.index) (sym same) c.in-Some-first_unripe_removal.ensures))))
