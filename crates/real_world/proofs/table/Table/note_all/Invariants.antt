use Rattle.std.proofs.Common.{◌≡◌}
use Rattle.real_world.proofs.table.Table.note_all.Given as goal

abbrev pub invariant-loop-readiness : goal.invariant-loop-readiness
invariant-loop-readiness l = l.self.opened ≡ l.fn.self.opened
