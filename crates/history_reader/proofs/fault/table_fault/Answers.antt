use Rattle.toml.specs.View.{table_view}
use Rattle.history_reader.specs.TableRows.{rows_in}
use Rattle.history_reader.proofs.TestLemmas.{passed-append, fault-back}
use Rattle.history_reader.proofs.TableLemmas.{table_fault_by, table_passes_by, unknown_fault, none_unknown}
use Rattle.history_reader.proofs.fault.table_fault.Goals as goal

pub returns-in-Some-unknown_member-clause-some : goal.returns-in-Some-unknown_member-clause-some
returns-in-Some-unknown_member-clause-some c =
    table_fault_by c.args.array c.args.index (rows_in c.rows_of_table-rows.result) (table_view c.args.table.now) _ c.rows_of_table-rows.ensures
    (fault-back _ _ _ c.in-None.ensures.none (unknown_fault c.args.array c.args.index (rows_in c.rows_of_table-rows.result) c.args.table.now.entries _ c.in-Some-unknown_member.ensures))

pub returns-in-None-unknown_member-clause-none : goal.returns-in-None-unknown_member-clause-none
returns-in-None-unknown_member-clause-none c =
    table_passes_by c.args.array c.args.index (rows_in c.rows_of_table-rows.result) (table_view c.args.table.now) c.rows_of_table-rows.ensures
    (passed-append _ _ c.in-None.ensures.none (none_unknown c.args.array c.args.index (rows_in c.rows_of_table-rows.result) c.args.table.now.entries c.in-None-unknown_member.ensures))
