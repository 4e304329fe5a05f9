use Rattle.std.proofs.Common.{◌≡◌, false, map, take}
use Rattle.object_pages.specs.Documents.{AreShown}
use Rattle.request_target.specs.Targets.{resource_seen}
use Rattle.serde_json.specs.View.{items_of, view}
use Rattle.serde_json.specs.Written.{items_have_float}
use Rattle.object_pages.proofs.list.item_values.Given as goal

abbrev pub invariant-loop-stored : goal.invariant-loop-stored
invariant-loop-stored l = record {
  shown : AreShown (resource_seen l.of) (take l.stored-index l.objects) (map view l.values.items);
  no_float : items_have_float (items_of (map view l.values.items)) ≡ false;
}
