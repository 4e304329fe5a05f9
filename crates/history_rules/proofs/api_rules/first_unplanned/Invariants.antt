use Rattle.schemas.specs.ApiRules.{KeepsPlan}
use Rattle.schemas.proofs.PlaceLemmas.{EachBelow}
use Rattle.history_rules.proofs.api_rules.first_unplanned.Given as goal

abbrev pub invariant-loop-i : goal.invariant-loop-i
invariant-loop-i l = EachBelow (KeepsPlan l.all l.last) l.entries l.i
