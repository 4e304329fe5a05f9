use Rattle.schemas.specs.GateRules.{RisesInGate}
use Rattle.schemas.proofs.PlaceLemmas.{EachBelow}
use Rattle.history_rules.proofs.gate_rules.first_not_rising.Given as goal

abbrev pub invariant-loop-i : goal.invariant-loop-i
invariant-loop-i l = EachBelow RisesInGate l.entries l.i
