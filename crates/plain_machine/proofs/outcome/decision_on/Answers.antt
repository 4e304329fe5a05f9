use Rattle.plain_machine.proofs.OutcomeLemmas.{decides_unserved}
use Rattle.plain_machine.proofs.outcome.decision_on.Goals as goal

pub returns-in_ok-answer-in-None-clause-decides : goal.returns-in_ok-answer-in-None-clause-decides
returns-in_ok-answer-in-None-clause-decides c =
    decides_unserved c.args.machine.now c.args.state.now.state c.args.request.now c.args.target _ c.in-None.is c.in_ok-answer-in-None.ensures
