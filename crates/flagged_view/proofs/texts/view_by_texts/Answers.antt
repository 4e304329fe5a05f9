use Rattle.std.proofs.Common.{◌≡◌, ap, sym, subst, ◌∙◌}
use Rattle.gate_spec.specs.Gates.{RisesInDate}
use Rattle.schemas.specs.Dated.{Dated}
use Rattle.schemas.proofs.LawLemmas.{gates_rise}
use Rattle.flagged_view.proofs.texts.view_by_texts.Goals as goal

pub gate_values-requires : goal.gate_values-requires
gate_values-requires c =
    let same : c.items.result.now ≡ c.args.a.now.gates = c.items.ensures ∙ ap (λ (h : Dated). h.gates) (c.history.view_is ∙ c.history-history.ensures.same) in
    subst RisesInDate (sym same) (gates_rise c.args.a.now c.history-history.ensures.accepted)
