use Rattle.schemas.specs.ApiRules.{DeprecatesFairly}
use Rattle.schemas.proofs.PlaceLemmas.{EachBelow}
use Rattle.history_rules.proofs.api_rules.first_unfair_deprecation.Given as goal

abbrev pub invariant-loop-i : goal.invariant-loop-i
invariant-loop-i l = EachBelow (DeprecatesFairly l.all) l.entries l.i
