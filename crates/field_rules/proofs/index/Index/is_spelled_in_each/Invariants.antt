use Rattle.std.specs.Borrow.{Bor}
use Rattle.lifecycle.specs.declared.entry.ApiEntry.{ApiEntry}
use Rattle.field_rules.specs.Answers.{IsSpelledIn}
use Rattle.field_rules.proofs.PassLemmas.{AllBelow}
use Rattle.field_rules.proofs.index.Index.is_spelled_in_each.Given as goal

abbrev pub invariant-loop-entry : goal.invariant-loop-entry
invariant-loop-entry l = AllBelow (λ (x : Bor ApiEntry). IsSpelledIn l.self l.field x.now) l.entry-items l.entry-index
