-- The end is right for the bytes that the source held.
use Rattle.std.proofs.Common.{rules, [], sym, subst, string_bytes, arith}
use Rattle.std.proofs.KnownBytes.{Keeps-refl}
use Rattle.emu_server.specs.Answer.{IsAnswerTo}
use Rattle.emu_server.proofs.TopLemmas.{held, held-known, taken_ends, read_fault_ends}
use Rattle.emu_server.proofs.top.answer_plain.Goals as goal

pub returns-in-Ok-answer_to-clause-ends : goal.returns-in-Ok-answer_to-clause-ends
returns-in-Ok-answer_to-clause-ends g c =
    let command = c.args.command.now in
    let answer = c.in-Ok-answer_to.answer in
    let taken : IsAnswerTo command c.in-Ok.bytes.items answer.status (string_bytes answer.text) =
    subst (λ b. IsAnswerTo command b answer.status (string_bytes answer.text)) c.as_slice.ensures.value c.in-Ok-answer_to.ensures in
    let written : IsAnswerTo command c.in-Ok.bytes.items answer.status c.as_bytes.result.now =
    subst (λ t. IsAnswerTo command c.in-Ok.bytes.items answer.status t) (sym c.as_bytes.ensures.value) taken in (
      held (g.S.Source.left c.args.history.now) c.in-Ok.bytes.items,
      held-known _ _,
      taken_ends _ command _ _ c.in-Ok.bytes.items _ _ _ _ _ c.in-Ok.ensures.bytes (λ short. c.in-Ok.ensures.end (omega arith)) written c.end_with.ensures.written,
    )

pub returns-in-Ok-clause-ends : goal.returns-in-Ok-clause-ends
returns-in-Ok-clause-ends g c = (held (g.S.Source.left c.args.history.now) [], held-known _ _, Keeps-refl _)

pub returns-in-Err-Read-clause-ends : goal.returns-in-Err-Read-clause-ends
returns-in-Err-Read-clause-ends g c = (held (g.S.Source.left c.args.history.now) [], held-known _ _, read_fault_ends c.args.command.now _ _ _ _ _ (search rules) c.end_with-in-Err-Read.ensures.written)

pub returns-clause-ends : goal.returns-clause-ends
returns-clause-ends g c = (held (g.S.Source.left c.args.history.now) [], held-known _ _, Keeps-refl _)
