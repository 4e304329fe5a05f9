use Rattle.std.proofs.Common.{drop}
use Rattle.workload.specs.Values.{fields_of, behind_fields}
use Rattle.workload.proofs.FieldLemmas.{OnWay}
use Rattle.workload.proofs.values.drawn_fields.Given as goal

abbrev pub invariant-loop-row : goal.invariant-loop-row
invariant-loop-row l = OnWay l.fields (drop l.row-index l.rows) l.draws.x (fields_of l.rows l.fn.draws.x) (behind_fields l.rows l.fn.draws.x)
