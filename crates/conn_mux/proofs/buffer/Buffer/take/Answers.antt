use Rattle.std.proofs.Common.{◌≡◌, ◌∙◌, ap, drop, arith}
use Rattle.conn_mux.proofs.BufferLemmas.{whole_next}
use Rattle.conn_mux.proofs.buffer.Buffer.take.Goals as goal

pub invariant_of-self-in-Whole : goal.invariant_of-self-in-Whole
invariant_of-self-in-Whole c =
    let rest : c.split_at.result.1.now ≡ drop c.self.inside.start c.self.inside.bytes.items = c.split_at.ensures.back ∙ ap (drop c.self.inside.start) c.as_slice.ensures.value in
    let next = whole_next c.self.inside.bytes.items c.split_at.result.1.now c.args.self.now c.self.inside.start c.in-Whole.used c.in-Whole.request _ rest c.self.view_is c.in-Whole.is c.in_ok-known.ensures in
    record { within = omega (arith, next.0, c.split_at.ensures.back_len, c.as_slice.ensures.len); known = c.nothing_known-self-inside.ensures _ }

pub returns-in-Whole-clause-ok : goal.returns-in-Whole-clause-ok
returns-in-Whole-clause-ok c =
    let rest : c.split_at.result.1.now ≡ drop c.self.inside.start c.self.inside.bytes.items = c.split_at.ensures.back ∙ ap (drop c.self.inside.start) c.as_slice.ensures.value in
    (whole_next c.self.inside.bytes.items c.split_at.result.1.now c.args.self.now c.self.inside.start c.in-Whole.used c.in-Whole.request _ rest c.self.view_is c.in-Whole.is c.in_ok-known.ensures).1
