use Rattle.std.proofs.Common.{◌∙◌}
use Rattle.row_index.proofs.RowLemmas.{guard_read}
use Rattle.row_index.proofs.made.is_guard_on.Goals as goal

pub returns-in-Some : goal.returns-in-Some
returns-in-Some c = c.eq.ensures ∙ guard_read c.args.gates.now c.args.field.now.gate c.in-Some.gate c.bytes.result.now c.value.result c.in-Some.is c.bytes.ensures c.value.ensures
