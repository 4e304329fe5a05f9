use Rattle.object_state.proofs.StateLemmas.{one_state}
use Rattle.object_state.proofs.law.change_leaves_one_state.Goals as goal

pub returns : goal.returns
returns c = λ a b p q. one_state c.args.state.now.state c.args.change.now a b p q
