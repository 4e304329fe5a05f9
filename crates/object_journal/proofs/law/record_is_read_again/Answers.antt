use Rattle.object_journal.proofs.Appends.{read_again}
use Rattle.object_journal.proofs.law.record_is_read_again.Goals as goal

pub returns : goal.returns
returns c = λ base gate entries bytes behind was may closed. read_again base gate entries c.args.framed.now bytes behind was may closed
