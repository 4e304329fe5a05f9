use Rattle.plain_machine.proofs.LawLemmas.{changes_one_key}
use Rattle.plain_machine.proofs.law.request_changes_one_key.Goals as goal

pub returns : goal.returns
returns c = changes_one_key c.args.state.now.state c.args.machine.now c.args.request.now
