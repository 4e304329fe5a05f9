use Rattle.object_store.proofs.OpenLemmas.{one_given}
use Rattle.object_store.proofs.law.bytes_give_one_list_of_records.Goals as goal

pub returns-clause-items : goal.returns-clause-items
returns-clause-items c = λ xs ys n m p q. (one_given c.args.bytes.now xs ys n m c.bytes_have_one_reading.ensures.base c.bytes_have_one_reading.ensures.entries p q).0

pub returns-clause-revision : goal.returns-clause-revision
returns-clause-revision c = λ xs ys n m p q. (one_given c.args.bytes.now xs ys n m c.bytes_have_one_reading.ensures.base c.bytes_have_one_reading.ensures.entries p q).1
