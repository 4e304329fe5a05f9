use Rattle.std.proofs.Common.{◌≡◌}
use Rattle.std.specs.Borrow.{Bor}
use Rattle.fields.specs.declared.field.Field.{Field}
use Rattle.field_rules.specs.Answers.{PairsWith}
use Rattle.field_rules.proofs.PassLemmas.{AllBelow}
use Rattle.field_rules.proofs.index.Index.pairs_with_one.Given as goal

abbrev pub invariant-loop-field : goal.invariant-loop-field
invariant-loop-field l = AllBelow (λ (x : Bor Field). ¬ ((x.now.id ≡ l.spell.field) × PairsWith l.self x.now l.spell)) l.field-items l.field-index
