use Rattle.schemas.specs.GateRules.{FitsStage}
use Rattle.schemas.proofs.PlaceLemmas.{EachBelow}
use Rattle.history_rules.proofs.gate_rules.first_unfit_spec.Given as goal

abbrev pub invariant-loop-i : goal.invariant-loop-i
invariant-loop-i l = EachBelow FitsStage l.entries l.i
