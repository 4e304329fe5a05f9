use Rattle.row_index.proofs.CutLemmas.{knows_same}
use Rattle.row_index.proofs.law.cut_knows_same.Goals as goal

pub returns : goal.returns
returns c = knows_same c.args.history.now c.args.cut.now c.args.e c.args.o c.requires.cut c.requires.later
