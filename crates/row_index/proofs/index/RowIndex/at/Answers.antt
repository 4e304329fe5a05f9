use Rattle.std.proofs.Common.{List, sym, ap, subst, ◌∙◌}
use Rattle.fields.specs.declared.field.Field.{Field}
use Rattle.fields.specs.declared.field.Spell.{Spell}
use Rattle.schemas.specs.Cutoff.{fields_by, spells_by}
use Rattle.row_index.specs.Once.{AreFieldsOnce, AreSpellsOnce}
use Rattle.row_index.proofs.OnceLemmas.{fields_once, spells_once}
use Rattle.row_index.proofs.index.RowIndex.at.Goals as goal

pub invariant_of-result : goal.invariant_of-result
invariant_of-result c =
    let same = c.history.view_is ∙ c.history-history.ensures.same in
    record {
      fields_by_resource = c.in_ok-fields_by_resource.ensures;
      spells_by_version = c.in_ok-spells_by_version.ensures;
      fields_once = subst (λ (l : List Field). AreFieldsOnce (fields_by l c.args.e)) (sym (c.items-fields.ensures ∙ ap (λ h. h.fields) same)) (fields_once c.args.a.now c.args.e c.history-history.ensures.accepted);
      spells_once = subst (λ (l : List Spell). AreSpellsOnce (spells_by l c.args.e)) (sym (c.items-spells.ensures ∙ ap (λ h. h.spells) same)) (spells_once c.args.a.now c.args.e c.history-history.ensures.accepted);
    }
