use Rattle.history_fold.proofs.SameFoldLemmas.{viewed_as_whole}
use Rattle.history_fold.proofs.law.folded_is_viewed_alike.Goals as goal

pub returns : goal.returns
returns c = viewed_as_whole c.args.history.now c.args.o
