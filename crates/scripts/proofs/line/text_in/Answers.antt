use Rattle.scripts.proofs.WritingLemmas.{no_text, none_holds}
use Rattle.scripts.proofs.line.text_in.Goals as goal

pub returns-in-None-clause-none : goal.returns-in-None-clause-none
returns-in-None-clause-none c =
    no_text c.args.line.now c.in-Some.c c.in-Some.json.now c.in-Some.ensures.bound c.in-Some.ensures.some (none_holds c.in_ok-bytes.field-0 _ c.in-None.is c.in_ok-bytes.ensures.none)
