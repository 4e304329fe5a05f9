use Rattle.plain_machine.proofs.CountLemmas.{counts_records}
use Rattle.plain_machine.proofs.law.request_counts_records.Goals as goal

pub returns : goal.returns
returns c = counts_records c.args.machine.now c.args.state.now.state c.args.request.now
