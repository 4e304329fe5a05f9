use Rattle.std.proofs.Common.{◌∙◌, ap, subst}
use Rattle.schemas.specs.Fields.{dated}
use Rattle.schemas.specs.Shapes.{IsMinor}
use Rattle.history_fold.specs.Folded.{gates_from, apis_from, spells_from}
use Rattle.history_fold.proofs.FoldLemmas.{shaped_as}
use Rattle.history_fold.proofs.folding.folded_history.Goals as goal

pub invariant_of-result : goal.invariant_of-result
invariant_of-result c =
    shaped_as (dated c.history.inside) c.args.floor c.in_ok-kept_gates.field-0 c.in_ok-kept_apis.field-0 c.in_ok-kept_fields.field-0 c.in_ok-kept_spells.field-0
    (subst IsMinor c.number-number.ensures.value c.number-number.ensures.bound) c.history.invariant
    (c.in_ok-kept_gates.ensures ∙ ap (λ xs. gates_from xs c.args.floor) c.items.ensures)
    (c.in_ok-kept_apis.ensures ∙ ap (λ xs. apis_from xs c.args.floor) c.items-apis.ensures)
    (c.in_ok-kept_fields.ensures ∙ c.items-2.ensures)
    (c.in_ok-kept_spells.ensures ∙ ap (λ xs. spells_from c.items-apis.result.now xs c.args.floor) c.items-3.ensures ∙ ap (λ xs. spells_from xs c.history.inside.spells c.args.floor) c.items-apis.ensures)
