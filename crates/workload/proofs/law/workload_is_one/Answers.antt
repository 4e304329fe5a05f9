use Rattle.workload.proofs.OneLemmas.{one_workload}
use Rattle.workload.proofs.law.workload_is_one.Goals as goal

pub returns : goal.returns
returns c = one_workload c.args.view.now c.args.seed c.args.size
