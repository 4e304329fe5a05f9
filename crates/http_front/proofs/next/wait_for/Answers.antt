use Rattle.std.proofs.Common.{arith}
use Rattle.http_front.proofs.WaitLemmas.{waits_for_body}
use Rattle.http_front.proofs.next.wait_for.Goals as goal

pub returns-then-buf-size : goal.returns-then-buf-size
returns-then-buf-size c = waits_for_body c.args.buf.now c.args.size (omega arith) c.requires
