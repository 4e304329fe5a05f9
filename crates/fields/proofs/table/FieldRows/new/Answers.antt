use Rattle.std.proofs.Common.{sym, subst}
use Rattle.fields.specs.Table.{IdsRise}
use Rattle.fields.proofs.RowLemmas.{no_rows}
use Rattle.fields.proofs.table.FieldRows.new.Goals as goal

pub invariant_of-result : goal.invariant_of-result
invariant_of-result c = subst IdsRise (sym c.new.ensures) no_rows
