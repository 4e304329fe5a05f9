use Rattle.std.proofs.Common.{take}
use Rattle.runtime_config.specs.Rows.{AreRowsOf}
use Rattle.runtime_config.proofs.keys.rows.Given as goal

abbrev pub invariant-loop-entry : goal.invariant-loop-entry
invariant-loop-entry l = AreRowsOf (take l.entry-index l.entries) l.rows.items
