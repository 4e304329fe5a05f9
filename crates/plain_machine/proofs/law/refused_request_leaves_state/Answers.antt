use Rattle.plain_machine.proofs.LawLemmas.{leaves_state}
use Rattle.plain_machine.proofs.law.refused_request_leaves_state.Goals as goal

pub returns : goal.returns
returns c =
    leaves_state c.args.state.now.state c.objects-objects.ensures.order
    c.args.machine.now c.args.request.now
