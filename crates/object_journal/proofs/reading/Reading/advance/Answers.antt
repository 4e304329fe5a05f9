use Rattle.std.proofs.Common.{[], ◌∷◌, ◌++◌, refl, sym, ap, ◌∙◌, arith}
use Rattle.std.specs.Prelude.{max, Err}
use Rattle.std.proofs.lemmas.Bool.{false≢true}
use Rattle.object_journal.specs.Journal.{MayFollow}
use Rattle.object_journal.proofs.EntryLaws.{lawful_more, revision_more}
use Rattle.object_journal.proofs.RuleLemmas.{unlawful}
use Rattle.object_journal.proofs.reading.Reading.advance.Goals as goal

pub returns-then-not-are_few-clause-unlawful : goal.returns-then-not-are_few-clause-unlawful
returns-then-not-are_few-clause-unlawful c = λ _ entries state.
    let e = c.in-Ok.next.0 in
    let n = c.in-Ok.ensures.ok entries state in
    let held = c.in-Ok-take_in.ensures entries state.held in
    unlawful c.args.self.now.base c.in-Ok.next.1 entries e c.args.bytes.now n.at_front (λ may. false≢true (sym c.if-not-are_few.true ∙ (c.are_few.ensures (entries ++ e ∷ []) held).1 may.few))

pub returns-clause-ok : goal.returns-clause-ok
returns-clause-ok c = λ entries state.
    let s = c.args.self.now in
    let e = c.in-Ok.next.0 in
    let n = c.in-Ok.ensures.ok entries state in
    let held = c.in-Ok-take_in.ensures entries state.held in
    let may : MayFollow s.base entries e = record {
      revision = n.next_revision;
      texts = n.at_front.payload.texts;
      within = n.at_front.within;
      change = n.change;
      few = (c.are_few.ensures (entries ++ e ∷ []) held).0 c.if-not-are_few.false;
    } in
    record {
      state = record {
        base_fits = state.base_fits;
        lawful = lawful_more s.base entries e state.lawful may;
        held = held;
        revision = c.max-self.ensures ∙ ap (λ n. max n e.revision) state.revision ∙ sym (revision_more s.base entries e);
        revision_fits = omega (arith, c.max-self.ensures, state.revision_fits, n.next_revision.fits);
      };
      base = refl;
      at_front = n.at_front.parts;
      within = n.at_front.gate;
    }

pub returns-in-Err-Unlawful-clause-unlawful : goal.returns-in-Err-Unlawful-clause-unlawful
returns-in-Err-Unlawful-clause-unlawful c = λ _. c.in-Err-Unlawful.ensures.unlawful (ap Err c.in-Err-Unlawful.field-0-is)
