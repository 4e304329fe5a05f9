use Rattle.std.proofs.Common.{refl, subst, sym, ◌∙◌, arith}
use Rattle.std.proofs.lemmas.Bool.{false≢true}
use Rattle.http_front.specs.Heads.{EndsHead}
use Rattle.http_front.proofs.WaitLemmas.{looked_more}
use Rattle.http_front.proofs.next.look_on.Goals as goal

pub loop-at-preserved : goal.loop-at-preserved
loop-at-preserved c =
    looked_more c.args.buf.now c.loop-at.at c.loop-at.lines c.feeds_of-lines.result _ (omega arith) refl c.loop-at.invariant c.feeds_of-lines.ensures (omega arith)
    (λ e. false≢true (sym c.if-ends_head.false ∙ c.ends_head.ensures.1 (subst EndsHead (sym c.split_at.ensures.front) e)))
