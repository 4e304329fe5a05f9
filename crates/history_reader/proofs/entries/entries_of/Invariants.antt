use Rattle.std.proofs.Common.{take}
use Rattle.std.specs.List.{AllByRecursion, AllZip}
use Rattle.toml.specs.View.{items_view}
use Rattle.history_reader.specs.Tree.{tables_in}
use Rattle.history_reader.proofs.entries.entries_of.Given as goal

abbrev pub invariant-loop-value : goal.invariant-loop-value
invariant-loop-value g l = record {
  read : AllZip g.E.Entry.is_entry (tables_in (items_view (take l.value-index l.items))) l.entries;
  shaped : AllByRecursion g.E.Entry.is_shaped l.entries;
}
