use Rattle.schemas.specs.SpellRules.{FitsField}
use Rattle.schemas.proofs.PlaceLemmas.{EachBelow}
use Rattle.field_rules.proofs.on_spellings.first_unfit.Given as goal

abbrev pub invariant-loop-i : goal.invariant-loop-i
invariant-loop-i l = EachBelow (FitsField l.index.fields) l.spells l.i
