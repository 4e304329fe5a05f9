use Rattle.object_store.proofs.NextLemmas.{one_records}
use Rattle.object_store.proofs.law.entries_leave_one_list.Goals as goal

pub returns : goal.returns
returns c = λ xs ys p q. one_records c.args.entries.now xs ys p q
