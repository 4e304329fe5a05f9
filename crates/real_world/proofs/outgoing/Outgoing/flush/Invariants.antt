use Rattle.std.proofs.Common.{◌≡◌}
use Rattle.real_world.proofs.outgoing.Outgoing.flush.Given as goal

abbrev pub invariant-loop : goal.invariant-loop
invariant-loop l = (l.self.spare ≡ l.fn.self.spare) × (l.connection.number ≡ l.fn.connection.number)
