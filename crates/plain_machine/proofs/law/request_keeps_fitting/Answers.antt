use Rattle.plain_machine.proofs.FittingLemmas.{goes_on_fitting}
use Rattle.plain_machine.proofs.law.request_keeps_fitting.Goals as goal

pub returns : goal.returns
returns c = goes_on_fitting c.args.state.now.state c.args.request.now c.args.machine.now c.view_finds_each.ensures c.view_is_kept.ensures
