use Rattle.std.proofs.Common.{arith}
use Rattle.conn_mux.proofs.buffer.Buffer.new.Goals as goal

pub invariant_of-result : goal.invariant_of-result
invariant_of-result c = record { within = omega arith; known = c.nothing_known.ensures _ }
