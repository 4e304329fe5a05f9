use Rattle.std.proofs.Common.{ap, sym, ◌∙◌}
use Rattle.flag_text.proofs.LastLemmas.{popped, seen_at, new_at}
use Rattle.flag_text.proofs.last.last_pieces.Goals as goal

pub loop-piece-preserved-then-contains_key : goal.loop-piece-preserved-then-contains_key
loop-piece-preserved-then-contains_key c =
    let xs = c.args.pieces.items in
    let ys = c.pop.new.self.items in
    let zs = c.loop-piece.pieces.items in
    let i = c.loop-piece.invariant in
    let done = seen_at c.args.words xs ys zs c.in-Some.piece c.piece.inside.name.now c.loop-piece.last.items c.loop-piece.booleans i.left c.in-Some.ensures.items (sym (ap (λ p. p.name) c.piece.view_is))
    (sym c.contains_key.ensures ∙ c.if-contains_key.true) i.order i.booleans in
    record {
      left = (popped xs ys zs c.in-Some.piece i.left c.in-Some.ensures.items).0;
      order = done.0;
      booleans = done.1;
    }

pub loop-piece-preserved : goal.loop-piece-preserved
loop-piece-preserved c =
    let xs = c.args.pieces.items in
    let ys = c.pop.new.self.items in
    let zs = c.loop-piece.pieces.items in
    let i = c.loop-piece.invariant in
    let done = new_at c.args.words xs ys zs c.in-Some.piece c.piece.inside.name.now c.loop-piece.last.items c.push.new.self.items c.loop-piece.booleans c.insert.new.self c.said.result i.left c.in-Some.ensures.items (sym (ap (λ p. p.name) c.piece.view_is))
    (sym c.contains_key.ensures ∙ c.if-contains_key.false) i.order i.booleans c.in_ok-push.ensures.items c.said.ensures c.in_ok-insert.ensures.updates in
    record {
      left = (popped xs ys zs c.in-Some.piece i.left c.in-Some.ensures.items).0;
      order = done.0;
      booleans = done.1;
    }
