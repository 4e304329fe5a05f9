use Rattle.toml.specs.View.{table_view}
use Rattle.schemas.specs.declared.array.Array.{Array}
use Rattle.history_reader.proofs.TableLemmas.{document_met}
use Rattle.history_reader.proofs.read.history_of.Goals as goal

pub entries_of-requires-clause-met : goal.entries_of-requires-clause-met
entries_of-requires-clause-met c =
    rw c.items_of_array.ensures (document_met (table_view c.args.table.now) c.requires Array.Gate tt)

pub entries_of-requires-2-clause-met : goal.entries_of-requires-2-clause-met
entries_of-requires-2-clause-met c =
    rw c.items_of_array-2.ensures (document_met (table_view c.args.table.now) c.requires Array.Api tt)

pub entries_of-requires-3-clause-met : goal.entries_of-requires-3-clause-met
entries_of-requires-3-clause-met c =
    rw c.items_of_array-3.ensures (document_met (table_view c.args.table.now) c.requires Array.Field tt)

pub entries_of-requires-4-clause-met : goal.entries_of-requires-4-clause-met
entries_of-requires-4-clause-met c =
    rw c.items_of_array-4.ensures (document_met (table_view c.args.table.now) c.requires Array.Spell tt)
