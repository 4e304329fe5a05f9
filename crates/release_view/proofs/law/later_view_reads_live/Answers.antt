use Rattle.release_view.proofs.LaterLemmas.{reads_live}
use Rattle.release_view.proofs.law.later_view_reads_live.Goals as goal

pub returns : goal.returns
returns c = λ history one. reads_live history c.args.back.now c.args.view.now one
