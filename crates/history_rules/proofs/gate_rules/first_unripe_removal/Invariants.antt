use Rattle.schemas.specs.GateRules.{FollowsLockedSpec}
use Rattle.schemas.proofs.PlaceLemmas.{EachBelow}
use Rattle.history_rules.proofs.gate_rules.first_unripe_removal.Given as goal

abbrev pub invariant-loop-i : goal.invariant-loop-i
invariant-loop-i l = EachBelow FollowsLockedSpec l.entries l.i
