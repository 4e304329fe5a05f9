use Rattle.std.proofs.Common.{take}
use Rattle.std.specs.List.{AllByRecursion, flat_map}
use Rattle.toml.specs.View.{table_view}
use Rattle.history_reader.specs.Rows.{entry_arrays}
use Rattle.history_reader.specs.Tests.{Passes, array_tests}
use Rattle.history_reader.proofs.fault.document_fault.Given as goal

abbrev pub invariant-loop-array : goal.invariant-loop-array
invariant-loop-array l = AllByRecursion Passes (flat_map (array_tests (table_view l.table)) (take l.array-index entry_arrays))
