use Rattle.http_front.proofs.FrontLemmas.{skipped_more}
use Rattle.http_front.proofs.head.skipped_len.Goals as goal

pub loop-len-preserved : goal.loop-len-preserved
loop-len-preserved c =
    let seen = c.loop-len.invariant.1 in
    let here = c.in-Some.ensures.some in
    skipped_more c.args.bytes.now c.split_at.result.1.now c.loop-len.at c.in-Some.len seen.0 here.0 c.loop-len.invariant.0 c.split_at.ensures.back seen.1 c.in-Some.ensures.bound.1 here.1
