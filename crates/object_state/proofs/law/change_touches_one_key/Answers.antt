use Rattle.object_state.proofs.StateLemmas.{others_stay}
use Rattle.object_state.proofs.law.change_touches_one_key.Goals as goal

pub returns : goal.returns
returns c = λ new key object applied apart. others_stay c.args.state.now.state.objects new.objects c.args.change.now key object applied.objects apart
