use Rattle.plain_machine.proofs.OnceLemmas.{one_verdict}
use Rattle.plain_machine.proofs.law.request_has_one_verdict.Goals as goal

pub returns : goal.returns
returns c =
    one_verdict c.args.state.now.state c.objects-objects.ensures.order
    c.args.request.now
