use Rattle.history_cut.proofs.CutLemmas.{cut_once}
use Rattle.history_cut.proofs.law.cutoff_twice_is_once.Goals as goal

pub returns : goal.returns
returns c = cut_once c.args.history.now c.args.o
