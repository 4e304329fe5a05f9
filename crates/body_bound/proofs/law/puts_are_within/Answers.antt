use Rattle.body_bound.proofs.PutLemmas.{puts_within}
use Rattle.body_bound.proofs.law.puts_are_within.Goals as goal

pub returns : goal.returns
returns c = puts_within c.args.back.now c.args.view.now c.view_is_kept.ensures
