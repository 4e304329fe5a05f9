use Rattle.std.proofs.Common.{arith}
use Rattle.conn_mux.proofs.BufferLemmas.{known_with}
use Rattle.conn_mux.proofs.buffer.Buffer.append.Goals as goal

pub invariant_of-self-2 : goal.invariant_of-self-2
invariant_of-self-2 c = record {
  within = omega (arith, c.in_ok-extend_from_slice.ensures.len, c.self.invariant.within);
  known = known_with c.self.inside.bytes.items c.args.bytes.now _ c.self.inside.start c.self.inside.known (omega (arith, c.self.invariant.within)) c.in_ok-extend_from_slice.ensures.items c.self.invariant.known;
}
