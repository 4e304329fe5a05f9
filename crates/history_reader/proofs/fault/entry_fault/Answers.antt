use Rattle.history_reader.proofs.TableLemmas.{is_table, entry_fault_at, entry_passes_at}
use Rattle.history_reader.proofs.fault.entry_fault.Goals as goal

pub table_of-requires : goal.table_of-requires
table_of-requires c = is_table c.args.items.now c.loop-i.i _ c.loop-i-test.true c.index-items-i.is c.requires

pub returns-in-Some-clause-some : goal.returns-in-Some-clause-some
returns-in-Some-clause-some c =
    entry_fault_at c.args.array c.args.items.now c.loop-i.i c.index-items-i.result _ _ c.loop-i-test.true c.index-items-i.is c.table_of.ensures c.loop-i.invariant c.in-Some.ensures.some

pub loop-i-preserved : goal.loop-i-preserved
loop-i-preserved c =
    entry_passes_at c.args.array c.args.items.now c.loop-i.i c.index-items-i.result _ c.loop-i-test.true c.index-items-i.is c.table_of.ensures c.loop-i.invariant c.in_default.ensures.none
