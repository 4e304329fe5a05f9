use Rattle.std.proofs.Common.{◌≡◌, ◌∙◌, length, take, ap, subst, sym, arith}
use Rattle.std.proofs.lemmas.List.{take_all}
use Rattle.http_front.specs.Heads.{HasNoHead, line_feeds}
use Rattle.http_front.proofs.TakeLemmas.{full_bad, lines_bad, more_head}
use Rattle.http_front.proofs.take.without_head.Goals as goal

pub returns-then-buf-ge-LONGEST_HEAD : goal.returns-then-buf-ge-LONGEST_HEAD
returns-then-buf-ge-LONGEST_HEAD c = full_bad c.args.buf.now c.args.near.now c.requires.near c.requires.none (omega arith)

pub returns-then-lines-gt-MOST_LINES : goal.returns-then-lines-gt-MOST_LINES
returns-then-lines-gt-MOST_LINES c = lines_bad c.args.buf.now c.args.near.now c.requires.near c.requires.none (omega (arith, c.line_feeds-lines.ensures))

pub returns : goal.returns
returns c =
    let near_whole : c.args.near.now ≡ c.args.buf.now = c.requires.near ∙ take_all 16384 c.args.buf.now (omega arith) in
    let whole : take (length c.args.buf.now) c.args.buf.now ≡ c.args.buf.now = take_all (length c.args.buf.now) c.args.buf.now (omega arith) in
    let same : c.args.near.now ≡ take (length c.args.buf.now) c.args.buf.now = near_whole ∙ sym whole in (
      more_head c.args.buf.now c.args.near.now c.requires.near c.requires.none (omega arith) (omega (arith, c.line_feeds-lines.ensures)),
      record { within = omega arith; none = subst HasNoHead same c.requires.none; count = c.line_feeds-lines.ensures ∙ ap line_feeds same; few = omega arith },
    )
