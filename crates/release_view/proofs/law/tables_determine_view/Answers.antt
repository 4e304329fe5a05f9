use Rattle.release_view.proofs.ViewLemmas.{has_one_view}
use Rattle.release_view.proofs.law.tables_determine_view.Goals as goal

pub returns : goal.returns
returns c = has_one_view c.args.history.now c.args.cut.now c.args.e c.args.o c.requires.cut c.requires.later c.requires.within
