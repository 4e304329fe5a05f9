use Rattle.std.proofs.Common.{◌≡◌, ◌-◌, List, [], ◌∷◌, ◌++◌, length, Result, Ok, Err, Some, OnOk, OnErr, sym, subst}
use Rattle.std.specs.List.{slice_get}
use Rattle.fields.specs.Order.{IsBelow}
use Rattle.fields.specs.Table.{IdsRise}
use Rattle.fields.specs.declared.table.FieldRow.{FieldRow}
use Rattle.fields.proofs.RowLemmas.{rises_push}
use Rattle.fields.proofs.table.FieldRows.push.Goals as goal

after : {T E : Type 0} (r : Result T E) (old new : List FieldRow) (row : FieldRow) → OnOk r (new ≡ old ++ row ∷ []) → OnErr r (new ≡ old) → IdsRise old
    → ((last : FieldRow) → slice_get old (length old - 1) ≡ Some last → IsBelow last.id row.id) → IdsRise new
after (Ok t) old new row ok err up h = subst IdsRise (sym ok) (rises_push old row up h)
after (Err e) old new row ok err up h = subst IdsRise (sym err) up

pub invariant_of-self : goal.invariant_of-self
invariant_of-self c = after c.push.result c.self.inside.rows c.push.new.self c.args.row c.push.ensures.ok c.push.ensures.err c.self.invariant (subst (λ (rows : List FieldRow). (last : FieldRow) → slice_get rows (length rows - 1) ≡ Some last → IsBelow last.id c.args.row.id) (sym c.self.view_is) c.requires)
