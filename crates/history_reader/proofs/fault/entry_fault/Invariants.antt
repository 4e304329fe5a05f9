use Rattle.std.proofs.Common.{take}
use Rattle.std.specs.List.{AllByRecursion}
use Rattle.toml.specs.View.{items_view}
use Rattle.history_reader.specs.Tree.{tables_in}
use Rattle.history_reader.specs.Tests.{Passes, entry_tests}
use Rattle.history_reader.proofs.fault.entry_fault.Given as goal

abbrev pub invariant-loop-i : goal.invariant-loop-i
invariant-loop-i l = AllByRecursion Passes (entry_tests l.array (tables_in (items_view (take l.i l.items))))
