use Rattle.workload.proofs.WholeLemmas.{come_whole}
use Rattle.workload.proofs.law.requests_come_whole.Goals as goal

pub returns : goal.returns
returns c = come_whole c.args.view.now c.args.seed c.args.size
