use Rattle.history_fold.proofs.FoldLemmas.{accepted_folded}
use Rattle.history_fold.proofs.law.folded_is_accepted.Goals as goal

pub returns : goal.returns
returns c = accepted_folded c.args.history.now
