use Rattle.served_steps.proofs.KeepLemmas.{keep_what_holds}
use Rattle.served_steps.proofs.law.steps_keep_what_holds.Goals as goal

pub returns : goal.returns
returns c = keep_what_holds c.args.machine.now c.view_finds_each.ensures c.view_is_kept.ensures c.args.state.now.state
