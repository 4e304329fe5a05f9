use Rattle.std.proofs.Common.{◌≡◌, length}
use Rattle.real_world.proofs.listener.Listener.next.Given as goal

abbrev pub invariant-loop : goal.invariant-loop
invariant-loop g l = (l.self.table.opened ≡ l.fn.self.table.opened) × (l.outgoing.spare ≡ l.fn.outgoing.spare) × (length l.into ≡ length l.fn.into)
