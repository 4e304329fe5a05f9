use Rattle.plain_machine.proofs.CodeLemmas.{known_code}
use Rattle.plain_machine.proofs.law.request_has_known_code.Goals as goal

pub returns : goal.returns
returns c = known_code c.args.machine.now c.args.state.now.state c.args.request.now
