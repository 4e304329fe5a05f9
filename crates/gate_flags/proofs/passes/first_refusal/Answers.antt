use Rattle.std.proofs.Common.{sym, ap, rules}
use Rattle.gate_spec.specs.Gates.{cutoff}
use Rattle.gate_flags.proofs.LookupLemmas.{knows_at}
use Rattle.gate_flags.specs.Flags.{IsAccepted}
use Rattle.flag_text.proofs.PassLemmas.{first_at, fine_more, fine_all}
use Rattle.gate_flags.proofs.passes.first_refusal.Goals as goal

pub returns-in-Some-clause-some : goal.returns-in-Some-clause-some
returns-in-Some-clause-some c = λ entries e knows.
    let x = c.piece-item.result in
    let at_name = knows_at entries e c.args.known.now x.name c.piece.inside.name.now c.spec_in.result knows (ap (λ p. p.name) c.piece.view_is) c.spec_in.ensures in
    first_at (IsAccepted (cutoff entries e)) _ c.args.last.now c.loop-piece.piece-index x _ c.loop-piece-test.true c.piece-item.is (c.loop-piece.invariant entries e knows) (c.in-Some.ensures.some entries e at_name) (sym (ap (λ p. p.place) c.piece.view_is))

pub loop-piece-preserved : goal.loop-piece-preserved
loop-piece-preserved c = λ entries e knows.
    let x = c.piece-item.result in
    let at_name = knows_at entries e c.args.known.now x.name c.piece.inside.name.now c.spec_in.result knows (ap (λ p. p.name) c.piece.view_is) c.spec_in.ensures in
    fine_more (IsAccepted (cutoff entries e)) c.args.last.now c.loop-piece.piece-index x c.loop-piece-test.true c.piece-item.is (c.loop-piece.invariant entries e knows) (c.in_default.ensures.none entries e at_name)

pub returns-clause-none : goal.returns-clause-none
returns-clause-none c = λ entries e knows. fine_all (IsAccepted (cutoff entries e)) c.args.last.now c.loop-piece.piece-index (search rules) (c.loop-piece.invariant entries e knows)
