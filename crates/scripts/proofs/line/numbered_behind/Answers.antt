use Rattle.scripts.proofs.SpaceLemmas.{none_behind}
use Rattle.scripts.proofs.line.numbered_behind.Goals as goal

pub returns-in-Some-clause-none : goal.returns-in-Some-clause-none
returns-in-Some-clause-none c = none_behind c.numbered.result c.args.line.now c.args.word.now c.in-Some.text.now c.in-Some.ensures.some c.numbered.ensures.none
