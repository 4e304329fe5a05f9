use Rattle.std.proofs.Common.{take}
use Rattle.schemas.specs.ApiRules.{NamesItsKind}
use Rattle.schemas.proofs.PlaceLemmas.{EachBelow}
use Rattle.history_rules.specs.KindsFields.{AreKindsOf}
use Rattle.history_rules.proofs.api_rules.first_mixed_kind.Given as goal

abbrev pub invariant-loop-i : goal.invariant-loop-i
invariant-loop-i l = record {
  each : EachBelow NamesItsKind l.entries l.i;
  kinds : AreKindsOf (take l.i l.entries) l.kinds;
}
