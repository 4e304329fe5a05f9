use Rattle.object_state.proofs.StateLemmas.{one_object}
use Rattle.object_state.proofs.law.key_holds_one_object.Goals as goal

pub returns : goal.returns
returns c = λ key a b at_a at_b. one_object c.args.objects.now key a b c.requires at_a at_b
