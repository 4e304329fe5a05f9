use Rattle.std.proofs.Common.{map, take}
use Rattle.std.specs.List.{AllByRecursion}
use Rattle.toml.specs.View.{table_view}
use Rattle.history_reader.specs.Tests.{Passes, row_test}
use Rattle.history_reader.proofs.fault.row_fault.Given as goal

abbrev pub invariant-loop-row : goal.invariant-loop-row
invariant-loop-row l = AllByRecursion Passes (map (row_test l.array l.index (table_view l.table)) (take l.row-index l.rows))
