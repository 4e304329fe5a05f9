use Rattle.history_cut.proofs.CutLemmas.{cut_again}
use Rattle.history_cut.proofs.law.cutoff_of_cutoff.Goals as goal

pub returns : goal.returns
returns c = cut_again c.args.history.now c.args.o c.args.e
