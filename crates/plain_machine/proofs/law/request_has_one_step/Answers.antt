use Rattle.std.proofs.Common.{ℕ, List, subst}
use Rattle.request_target.specs.Laws.{AsksForOne}
use Rattle.plain_machine.proofs.StepLemmas.{one_step}
use Rattle.plain_machine.proofs.law.request_has_one_step.Goals as goal

pub returns : goal.returns
returns c =
    one_step c.args.state.now.state c.objects-objects.ensures.order
    c.args.machine.now c.args.request.now
    (subst (λ (path : List ℕ). AsksForOne c.args.machine.now.view path) c.bytes.ensures c.path_asks_for_one.ensures)
