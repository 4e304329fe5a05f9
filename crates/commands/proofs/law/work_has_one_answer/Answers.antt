use Rattle.commands.proofs.OneLemmas.{work_one}
use Rattle.commands.proofs.law.work_has_one_answer.Goals as goal

pub returns : goal.returns
returns c = work_one c.args.accepted.now
