use Rattle.std.proofs.Common.{sym, subst}
use Rattle.fields.specs.Fits.{Fits}
use Rattle.workload.specs.Values.{fields_of, behind_fields}
use Rattle.workload.proofs.FieldLemmas.{at_end, fields_fit, in_place, map_fields}
use Rattle.workload.proofs.values.drawn_fields.Goals as goal

pub append-requires : goal.append-requires
append-requires c =
    let rows = c.args.rows.now in
    let x = c.args.draws.now.x in
    in_place c.loop-row.fields rows c.loop-row.row-index c.row-item.result c.loop-row.draws.x (fields_of rows x) (behind_fields rows x) c.is_taken.result c.is_taken.new.draws.x c.in_ok-duplicate.field-0 c.in_ok-value.value
    c.loop-row.invariant c.loop-row-test.true c.row-item.is c.is_taken.ensures.value c.if-is_taken.true (map_fields rows x c.requires) c.is_taken.ensures.after c.in_ok-value.ensures.value c.in_ok-duplicate.ensures

pub returns-clause-fits : goal.returns-clause-fits
returns-clause-fits c =
    let rows = c.args.rows.now in
    let x = c.args.draws.now.x in
    let (all, behind) = at_end c.loop-row.fields rows c.loop-row.row-index c.loop-row.draws.x (fields_of rows x) (behind_fields rows x) c.loop-row.invariant c.loop-row-test.false in
    subst (Fits rows) (sym all) (fields_fit rows x c.requires)
