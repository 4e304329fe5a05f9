use Rattle.schemas.specs.FieldRules.{HasKnownGate}
use Rattle.schemas.specs.Rules.{first_of}
use Rattle.schemas.proofs.PlaceLemmas.{EachBelow}
use Rattle.field_rules.proofs.on_fields.first_with_unknown_gate.Given as goal

abbrev pub invariant-loop-i : goal.invariant-loop-i
invariant-loop-i l = EachBelow (HasKnownGate (first_of l.index) l.index.gates) l.fields l.i
