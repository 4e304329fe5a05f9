use Rattle.std.proofs.Common.{ap, arith, length}
use Rattle.http_front.proofs.TakeLemmas.{more_body}
use Rattle.http_front.proofs.WaitLemmas.{size_said}
use Rattle.http_front.proofs.take.take_body.Goals as goal

pub returns-then-rest-size : goal.returns-then-rest-size
returns-then-rest-size c = (
  more_body c.args.buf.now c.args.front.now c.args.said.now c.requires (omega (arith, ap length c.split_at.ensures.back, c.body_size-size.ensures.value)),
  size_said c.args.buf.now c.args.front.now c.args.said.now _ c.requires (omega (arith, c.body_size-size.ensures.value)),
)
