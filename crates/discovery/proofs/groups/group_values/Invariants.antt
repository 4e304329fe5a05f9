use Rattle.std.proofs.Common.{◌≡◌, ◌++◌, map, length}
use Rattle.serde_json.specs.View.{view}
use Rattle.discovery.specs.Groups.{group_trees}
use Rattle.discovery.specs.Order.{GroupsRise}
use Rattle.discovery.proofs.groups.group_values.Given as goal

abbrev pub decreases-loop-rest : goal.decreases-loop-rest
decreases-loop-rest l = length l.rest

abbrev pub invariant-loop-rest : goal.invariant-loop-rest
invariant-loop-rest l = GroupsRise l.rest × (map view l.values.items ++ group_trees l.rest ≡ group_trees l.initial.rest)
