use Rattle.std.proofs.Common.{◌<◌, length, subst}
use Rattle.std.specs.Int.{div_ceil}
use Rattle.workload.proofs.EventLemmas.{piece_more, piece_follows}
use Rattle.workload.proofs.parts.push_pieces.Goals as goal

pub push-requires : goal.push-requires
push-requires c =
    let below : c.loop-k.k < div_ceil (length c.args.bytes.now) 4096 = subst (λ n. c.loop-k.k < n) c.div_ceil-k-end.ensures c.loop-k-test.true in
    piece_follows c.loop-k.script c.args.c c.loop-k.k c.args.bytes.now c.slice_at.result.now c.in_ok-piece.piece c.loop-k.invariant.ready c.requires.known below c.slice_at.ensures c.in_ok-piece.ensures

pub loop-k-preserved : goal.loop-k-preserved
loop-k-preserved c =
    piece_more c.args.script.now c.loop-k.script c.push.new.self c.args.c c.loop-k.k c.args.bytes.now c.slice_at.result.now c.in_ok-piece.piece c.loop-k.invariant c.slice_at.ensures c.in_ok-piece.ensures c.in_ok-push.ensures.ok
