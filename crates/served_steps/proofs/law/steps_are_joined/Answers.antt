use Rattle.served_steps.proofs.JoinLemmas.{are_joined}
use Rattle.served_steps.proofs.law.steps_are_joined.Goals as goal

pub returns : goal.returns
returns c = are_joined c.args.machine.now c.args.state.now.state
