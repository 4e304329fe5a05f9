use Rattle.basis.proofs.ElementLemmas.{AllByRecursion-push}
use Rattle.history_reader.specs.Tests.{MeetsRows}
use Rattle.history_reader.proofs.TableLemmas.{is_table}
use Rattle.history_reader.proofs.EntryLemmas.{entries_more, table_holds}
use Rattle.history_reader.proofs.entries.entries_of.Goals as goal

pub table_of-requires : goal.table_of-requires
table_of-requires g c = is_table c.args.items.now c.loop-value.value-index _ c.loop-value-test.true c.value-item.is c.requires.tables

pub from_table-requires : goal.from_table-requires
from_table-requires g c =
    table_holds (λ t. MeetsRows (g.E.Entry.rows t) t) c.args.items.now c.loop-value.value-index c.value-item.result _ c.loop-value-test.true c.value-item.is c.table_of.ensures c.requires.met

pub loop-value-preserved : goal.loop-value-preserved
loop-value-preserved g c = record {
  read = rw c.in-Ok-push.ensures.ok (entries_more g.E.Entry.is_entry c.args.items.now c.loop-value.value-index c.value-item.result _ _ _ c.loop-value-test.true c.value-item.is c.table_of.ensures c.loop-value.invariant.read c.in-Ok.ensures.ok);
  shaped = rw c.in-Ok-push.ensures.ok (AllByRecursion-push g.E.Entry.is_shaped _ _ c.loop-value.invariant.shaped c.in-Ok.ensures.shaped);
}
