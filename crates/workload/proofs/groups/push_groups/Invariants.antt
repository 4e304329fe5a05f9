use Rattle.std.proofs.Common.{◌≡◌, ◌++◌}
use Rattle.std.specs.List.{flat_map}
use Rattle.workload.specs.Groups.{group_events}
use Rattle.workload.specs.Parts.{AreOpen, first_slices}
use Rattle.workload.proofs.groups.push_groups.Given as goal

abbrev pub invariant-loop-k : goal.invariant-loop-k
invariant-loop-k l = record {
  ready : AreOpen l.script;
  so_far : l.script ≡ l.initial.script ++ flat_map group_events (first_slices 4 l.k l.requests);
}
