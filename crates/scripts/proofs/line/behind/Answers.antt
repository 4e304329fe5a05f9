use Rattle.scripts.proofs.SpaceLemmas.{behind_some, behind_none}
use Rattle.scripts.proofs.line.behind.Goals as goal

pub returns-clause-some : goal.returns-clause-some
returns-clause-some c = behind_some c.strip_prefix.result c.args.line.now c.args.word.now c.strip_prefix.ensures.cases

pub returns-clause-none : goal.returns-clause-none
returns-clause-none c = behind_none c.strip_prefix.result c.args.line.now c.args.word.now c.strip_prefix.ensures.cases
