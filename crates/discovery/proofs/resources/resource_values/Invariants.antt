use Rattle.std.proofs.Common.{◌≡◌, map, take}
use Rattle.serde_json.specs.View.{view}
use Rattle.discovery.specs.Resources.{resource_tree, resources_in}
use Rattle.discovery.proofs.resources.resource_values.Given as goal

abbrev pub invariant-loop-resource : goal.invariant-loop-resource
invariant-loop-resource l = map view l.values.items ≡ map resource_tree (resources_in (take l.resource-index l.served) l.group l.version)
