use Rattle.schemas.specs.ApiRules.{StandsInOrder}
use Rattle.schemas.proofs.PlaceLemmas.{EachBelow}
use Rattle.history_rules.proofs.api_rules.first_out_of_order.Given as goal

abbrev pub invariant-loop-i : goal.invariant-loop-i
invariant-loop-i l = EachBelow StandsInOrder l.entries l.i
