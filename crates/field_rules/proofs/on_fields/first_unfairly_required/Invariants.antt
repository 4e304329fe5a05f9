use Rattle.schemas.specs.FieldRules.{IsRequiredFairly}
use Rattle.schemas.proofs.PlaceLemmas.{EachBelow}
use Rattle.field_rules.proofs.on_fields.first_unfairly_required.Given as goal

abbrev pub invariant-loop-i : goal.invariant-loop-i
invariant-loop-i l = EachBelow (IsRequiredFairly l.index.apis) l.fields l.i
