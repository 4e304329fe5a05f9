use Rattle.history_fold.proofs.RestLemmas.{keeps_the_rest}
use Rattle.history_fold.proofs.law.folded_keeps_the_rest.Goals as goal

pub returns : goal.returns
returns c = keeps_the_rest c.args.history.now
