use Rattle.std.proofs.Common.{◌∙◌, ap, subst}
use Rattle.gate_spec.specs.Gates.{cutoff as gates_by}
use Rattle.lifecycle.specs.Tables.{cutoff as apis_by}
use Rattle.schemas.specs.Cutoff.{fields_by, spells_by}
use Rattle.schemas.specs.Fields.{dated}
use Rattle.schemas.specs.Shapes.{IsMinor}
use Rattle.history_cut.proofs.CutLemmas.{shaped_as}
use Rattle.history_cut.proofs.cut.cut_history.Goals as goal

pub invariant_of-result : goal.invariant_of-result
invariant_of-result c =
    shaped_as (dated c.history.inside) c.args.o c.in_ok-kept_gates.field-0 c.in_ok-kept_apis.field-0 c.in_ok-kept_fields.field-0 c.in_ok-kept_spells.field-0
    (subst IsMinor c.number-number.ensures.value c.number-number.ensures.bound) c.history.invariant
    (c.in_ok-kept_gates.ensures ∙ ap (λ xs. gates_by xs c.args.o) c.items.ensures)
    (c.in_ok-kept_apis.ensures ∙ ap (λ xs. apis_by xs c.args.o) c.items-2.ensures)
    (c.in_ok-kept_fields.ensures ∙ ap (λ xs. fields_by xs c.args.o) c.items-3.ensures)
    (c.in_ok-kept_spells.ensures ∙ ap (λ xs. spells_by xs c.args.o) c.items-4.ensures)
