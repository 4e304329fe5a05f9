use Rattle.std.proofs.Common.{take, option_copied}
use Rattle.field_drop.specs.Dropping.{AreKept}
use Rattle.field_drop.proofs.dropping.drop_fields.Given as goal

abbrev pub invariant-loop-row : goal.invariant-loop-row
invariant-loop-row l = AreKept (take l.row-index l.table.rows) (option_copied l.fn.old) l.initial.new l.new
