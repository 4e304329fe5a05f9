use Rattle.history_cut.proofs.CutLemmas.{accepted_cut}
use Rattle.history_cut.proofs.law.cutoff_is_accepted.Goals as goal

pub returns : goal.returns
returns c = accepted_cut c.args.history.now c.args.o
