use Rattle.std.proofs.Common.{sym, arith}
use Rattle.session_step.proofs.step.refuse.Goals as goal

-- the third code
pub outgoing_of-requires : goal.outgoing_of-requires
outgoing_of-requires g c = (2, omega arith, sym c.in_ok-reply.ensures.code)
