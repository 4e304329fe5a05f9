use Rattle.std.proofs.Common.{below_more, subst, sym, ◌∙◌, arith}
use Rattle.std.proofs.lemmas.Bool.{false≢true}
use Rattle.http_front.specs.Heads.{EndsHead}
use Rattle.http_front.proofs.FrontLemmas.{no_end_first}
use Rattle.http_front.proofs.head.head_len.Goals as goal

pub loop-at-init : goal.loop-at-init
loop-at-init c = λ m below h. no_end_first c.args.text.now m below h

pub loop-at-preserved : goal.loop-at-preserved
loop-at-preserved c =
    below_more _ _ c.loop-at.invariant (λ e. false≢true (sym c.if-ends_head.false ∙ c.ends_head.ensures.1 (subst EndsHead (sym c.split_at.ensures.front) e)))

pub returns-then-ends_head-clause-some : goal.returns-then-ends_head-clause-some
returns-then-ends_head-clause-some c = (
  omega arith,
  record { ends = subst EndsHead c.split_at.ensures.front (c.ends_head.ensures.0 c.if-ends_head.true); first = c.loop-at.invariant },
)

pub returns-clause-none : goal.returns-clause-none
returns-clause-none c = λ m within. c.loop-at.invariant m (omega arith)
