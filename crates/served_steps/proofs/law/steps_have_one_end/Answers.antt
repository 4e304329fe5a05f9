use Rattle.served_steps.proofs.EndLemmas.{have_one_end}
use Rattle.served_steps.proofs.law.steps_have_one_end.Goals as goal

pub returns : goal.returns
returns c = have_one_end c.args.machine.now c.args.state.now.state c.objects-objects.ensures.order
