use Rattle.scripts.proofs.WritingLemmas.{writes_once}
use Rattle.scripts.proofs.law.line_writes_one_event.Goals as goal

pub returns : goal.returns
returns c = writes_once c.args.line.now
