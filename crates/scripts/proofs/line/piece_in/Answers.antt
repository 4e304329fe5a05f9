use Rattle.scripts.proofs.WritingLemmas.{neither, none_holds}
use Rattle.scripts.proofs.line.piece_in.Goals as goal

pub returns-in-None-clause-none : goal.returns-in-None-clause-none
returns-in-None-clause-none c =
    neither c.args.line.now (none_holds c.in_ok-c.field-0 _ c.in_default.is c.in_ok-c.ensures.none) (none_holds c.in_ok-c-2.field-0 _ c.in-None.is c.in_ok-c-2.ensures.none)
