use Rattle.std.proofs.Common.{◌<◌, ◌∙◌, sym, ap, subst}
use Rattle.std.specs.Prelude.{option_and_then}
use Rattle.std.specs.Option.{option_copied}
use Rattle.request_target.specs.Queries.{unsupported}
use Rattle.request_target.proofs.QueryLemmas.{refused_here, refused_later, left_of, left_shorter}
use Rattle.request_target.proofs.query.unsupported.Goals as goal

pub returns-in-Some-unsupported_name : goal.returns-in-Some-unsupported_name
returns-in-Some-unsupported_name c =
    refused_here c.in-Some.text.now c.cut_at.result.0.now c.piece_name.result.now c.piece_name.ensures (option_copied c.cut_at.result.1) c.in-Some-unsupported_name.name.now c.cut_at.ensures c.in-Some-unsupported_name.ensures
    ∙ sym (ap (λ o. option_and_then unsupported (option_copied o)) c.in-Some.is) ∙ c.loop-left.invariant

pub loop-left-preserved : goal.loop-left-preserved
loop-left-preserved c =
    refused_later c.in-Some.text.now c.cut_at.result.0.now c.piece_name.result.now c.piece_name.ensures (option_copied c.cut_at.result.1) c.cut_at.ensures c.in_default-unsupported_name.ensures
    ∙ sym (ap (λ o. option_and_then unsupported (option_copied o)) c.in-Some.is) ∙ c.loop-left.invariant

pub loop-left-smaller : goal.loop-left-smaller
loop-left-smaller c =
    subst (λ o. left_of (option_copied c.cut_at.result.1) < left_of (option_copied o)) (sym c.in-Some.is)
    (left_shorter c.in-Some.text.now c.cut_at.result.0.now (option_copied c.cut_at.result.1) c.cut_at.ensures)
