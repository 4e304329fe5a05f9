use Rattle.std.proofs.Common.{arith}
use Rattle.http_front.proofs.TakeLemmas.{front_bad, other_bad, head_feeds}
use Rattle.http_front.proofs.take.take_with_head.Goals as goal

pub returns-then-line_feeds-gt-MOST_LINES : goal.returns-then-line_feeds-gt-MOST_LINES
returns-then-line_feeds-gt-MOST_LINES c = front_bad c.args.buf.now c.args.front.now c.args.head.now c.requires.front (omega (arith, c.line_feeds.ensures))

pub read_head-requires : goal.read_head-requires
read_head-requires c = head_feeds c.args.buf.now c.args.front.now c.args.head.now c.requires.front (omega (arith, c.line_feeds.ensures))

pub returns-in-None : goal.returns-in-None
returns-in-None c = other_bad c.args.buf.now c.args.front.now c.args.head.now c.requires.front c.in-None.ensures.none
