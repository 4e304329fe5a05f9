use Rattle.std.proofs.Common.{sym, ap, rules}
use Rattle.flag_text.specs.Passes.{HasBoolean}
use Rattle.flag_text.proofs.PassLemmas.{first_at, fine_more, fine_all}
use Rattle.flag_text.proofs.pass.first_pair_fault.Goals as goal

pub returns-in-Some-clause-some : goal.returns-in-Some-clause-some
returns-in-Some-clause-some c =
    first_at (HasBoolean c.args.vocabulary) _ c.args.pieces.now c.loop-piece.piece-index c.piece-item.result _ c.loop-piece-test.true c.piece-item.is c.loop-piece.invariant c.in-Some.ensures.some (sym (ap (λ p. p.place) c.piece.view_is))

pub loop-piece-preserved : goal.loop-piece-preserved
loop-piece-preserved c =
    fine_more (HasBoolean c.args.vocabulary) c.args.pieces.now c.loop-piece.piece-index c.piece-item.result c.loop-piece-test.true c.piece-item.is c.loop-piece.invariant c.in_default.ensures.none

pub returns-clause-none : goal.returns-clause-none
returns-clause-none c = fine_all (HasBoolean c.args.vocabulary) c.args.pieces.now c.loop-piece.piece-index (search rules) c.loop-piece.invariant
