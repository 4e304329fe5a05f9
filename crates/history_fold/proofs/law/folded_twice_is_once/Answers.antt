use Rattle.history_fold.proofs.OnceLemmas.{folded_once}
use Rattle.history_fold.proofs.law.folded_twice_is_once.Goals as goal

pub returns : goal.returns
returns c = folded_once c.args.history.now
