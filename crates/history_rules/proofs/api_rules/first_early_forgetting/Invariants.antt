use Rattle.schemas.specs.ApiRules.{ForgetsLate}
use Rattle.schemas.proofs.PlaceLemmas.{EachBelow}
use Rattle.history_rules.proofs.api_rules.first_early_forgetting.Given as goal

abbrev pub invariant-loop-i : goal.invariant-loop-i
invariant-loop-i l = EachBelow (ForgetsLate l.all) l.entries l.i
