use Rattle.std.proofs.Common.{arith}
use Rattle.object_journal.proofs.HeldLemmas.{few_held, not_many}
use Rattle.object_journal.proofs.held.are_few.Goals as goal

pub returns : goal.returns
returns c = λ entries are. (
  (λ small. few_held c.args.held.now entries are (grind (arith, small, c.len.ensures.len))),
  (λ few. let small = not_many c.args.held.now entries c.len.ensures.ordered are few in grind (arith, small, c.len.ensures.len)),
)
