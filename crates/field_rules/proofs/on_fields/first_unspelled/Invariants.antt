use Rattle.schemas.specs.FieldRules.{IsSpelledThroughout}
use Rattle.schemas.proofs.PlaceLemmas.{EachBelow}
use Rattle.field_rules.proofs.on_fields.first_unspelled.Given as goal

abbrev pub invariant-loop-i : goal.invariant-loop-i
invariant-loop-i l = EachBelow (IsSpelledThroughout l.index.apis l.index.spells) l.fields l.i
