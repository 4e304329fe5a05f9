use Rattle.std.proofs.Common.{sym, subst, ◌∙◌}
use Rattle.std.proofs.lemmas.Bool.{false≢true}
use Rattle.object_journal.specs.declared.entry.Entry.{Entry}
use Rattle.object_journal.specs.Parts.{IsRecordAt}
use Rattle.object_journal.proofs.RuleLemmas.{unlawful, none_there}
use Rattle.object_journal.proofs.reading.Reading.next.Goals as goal

pub returns-in_default-clause-unlawful : goal.returns-in_default-clause-unlawful
returns-in_default-clause-unlawful c = λ _ entries state. none_there c.args.self.now.base entries c.args.bytes.now c.in_default.ensures.none

pub returns-then-not-is_next-clause-unlawful : goal.returns-then-not-is_next-clause-unlawful
returns-then-not-is_next-clause-unlawful c = λ _ entries state.
    let s = c.args.self.now in
    let there = subst (λ (e : Entry). IsRecordAt c.args.bytes.now e c.in-Some.size) (sym c.in-Ok.ensures) c.in-Some.ensures.some in
    unlawful s.base c.in-Some.size entries c.in-Ok.entry c.args.bytes.now there (λ may. false≢true (sym c.if-not-is_next.true ∙ (c.is_next.ensures entries state.revision).1 may.revision))

pub returns-then-not-is_lawful-clause-unlawful : goal.returns-then-not-is_lawful-clause-unlawful
returns-then-not-is_lawful-clause-unlawful c = λ _ entries state.
    let s = c.args.self.now in
    let there = subst (λ (e : Entry). IsRecordAt c.args.bytes.now e c.in-Some.size) (sym c.in-Ok.ensures) c.in-Some.ensures.some in
    unlawful s.base c.in-Some.size entries c.in-Ok.entry c.args.bytes.now there (λ may. false≢true (sym c.if-not-is_lawful.true ∙ (c.is_lawful.ensures entries state.held).1 may.change))
