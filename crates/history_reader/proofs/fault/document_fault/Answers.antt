use Rattle.toml.specs.View.{table_view}
use Rattle.history_reader.specs.Rows.{entry_arrays}
use Rattle.schemas.specs.declared.array.Array.{Array}
use Rattle.history_reader.specs.Tests.{array_tests, table_tests}
use Rattle.history_reader.proofs.TestLemmas.{fault-front, fault-back, joined_fault}
use Rattle.history_reader.proofs.fault.document_fault.Goals as goal

pub returns-in-Some-clause-some : goal.returns-in-Some-clause-some
returns-in-Some-clause-some c = fault-front _ _ _ c.in-Some.ensures.some

pub returns-in-Some-entry_fault-clause-some : goal.returns-in-Some-entry_fault-clause-some
returns-in-Some-entry_fault-clause-some c =
    fault-back (table_tests Array.Top 0 (table_view c.args.table.now)) _ _ c.in_default.ensures.none
    (joined_fault (array_tests (table_view c.args.table.now)) entry_arrays c.loop-array.array-index _ _ c.loop-array-test.true c.loop-array.invariant
    (rw c.items_of_array.ensures at c.in-Some-entry_fault.ensures.some))
