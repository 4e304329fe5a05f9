-- The end is right for the bytes that the source held.
use Rattle.std.proofs.Common.{[]}
use Rattle.std.proofs.KnownBytes.{Keeps-refl}
use Rattle.commands.specs.Work.{IsPlain}
use Rattle.emu_server.proofs.TopLemmas.{command_ends, held, held-known, usage_ends}
use Rattle.emu_server.proofs.top.run_plain.Goals as goal
use Rattle.emu_server.specs.Answer.{IsCommandLine}
use Rattle.words.specs.Commands.{IsCommand}
use Rattle.words.specs.Settings.{texts_of}

pub returns-in-Ok-Some-clause-ends : goal.returns-in-Ok-Some-clause-ends
returns-in-Ok-Some-clause-ends g c =
    let words = texts_of c.args.words.now in
    let command = c.in-Ok-Some.command in
    let e = c.answer_plain.ensures.ends in
    let asked : IsCommand words command × IsPlain command = rw c.in-Ok-Some.field-0-is at c.in-Ok-Some.ensures.some in
    (e.0, e.1, command_ends words command e.0 _ _ _ _ asked.0 asked.1 e.2)

pub returns-in-Ok-None-clause-ends : goal.returns-in-Ok-None-clause-ends
returns-in-Ok-None-clause-ends g c =
    let none : ¬ IsCommandLine (texts_of c.args.words.now) = rw c.in-Ok-None.field-0-is at c.in-Ok-None.ensures.none in
    (held (g.S.Source.left c.args.history.now) [], held-known _ _, usage_ends (texts_of c.args.words.now) _ _ _ _ _ none c.end_with.ensures.written)

pub returns-in-Err-clause-ends : goal.returns-in-Err-clause-ends
returns-in-Err-clause-ends g c = (held (g.S.Source.left c.args.history.now) [], held-known _ _, Keeps-refl _)
