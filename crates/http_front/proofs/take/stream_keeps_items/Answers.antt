use Rattle.std.proofs.Common.{◌++◌}
use Rattle.http_front.proofs.ItemLemmas.{item_longer, items_kept}
use Rattle.http_front.proofs.take.stream_keeps_items.Goals as goal

pub returns-clause-first : goal.returns-clause-first
returns-clause-first c = λ more item behind h. (behind ++ more, item_longer c.args.stream.now more item behind h)

pub returns-clause-all : goal.returns-clause-all
returns-clause-all c = λ more items later rest left h k. items_kept c.args.stream.now more items later rest left h k
