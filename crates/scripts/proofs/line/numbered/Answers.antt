use Rattle.scripts.proofs.SpaceLemmas.{not_numbered, numbered_cut}
use Rattle.scripts.proofs.line.numbered.Goals as goal

pub returns-in_default-clause-none : goal.returns-in_default-clause-none
returns-in_default-clause-none c = λ n rest small e. not_numbered c.args.text.now c.in_default.ensures.none n rest e

pub returns-in-None-clause-none : goal.returns-in-None-clause-none
returns-in-None-clause-none c = λ n rest small e.
    c.in-None.ensures.none n small (numbered_cut c.args.text.now c.in-Some.digits.now c.in-Some.rest.now c.in-Some.ensures.whole c.in-Some.ensures.first n rest small e)
