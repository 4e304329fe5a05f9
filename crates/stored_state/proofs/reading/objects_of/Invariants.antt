use Rattle.std.proofs.Common.{take}
use Rattle.std.specs.Prelude.{All}
use Rattle.stored_state.specs.Reading.{IsReadByBoth}
use Rattle.stored_state.specs.Steps.{AreObjectsOf}
use Rattle.stored_state.proofs.reading.objects_of.Given as goal

-- the records so far are read by both releases, and these are their objects
abbrev pub invariant-loop-item : goal.invariant-loop-item
invariant-loop-item l = record {
  objects : AreObjectsOf l.view.versions (take l.item-index l.items) l.objects.items;
  both : All (IsReadByBoth l.back l.view) (take l.item-index l.items);
}
