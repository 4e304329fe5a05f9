use Rattle.history_fold.proofs.SameFoldLemmas.{tables_of_whole}
use Rattle.history_fold.proofs.law.folded_has_same_tables.Goals as goal

pub returns : goal.returns
returns c = tables_of_whole c.args.history.now c.args.o
