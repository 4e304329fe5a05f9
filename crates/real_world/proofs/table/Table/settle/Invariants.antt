use Rattle.std.proofs.Common.{◌≡◌}
use Rattle.real_world.proofs.table.Table.settle.Given as goal

abbrev pub invariant-loop-at : goal.invariant-loop-at
invariant-loop-at l = (l.self.opened ≡ l.fn.self.opened) × (l.outgoing.spare ≡ l.fn.outgoing.spare)
