use Rattle.std.proofs.Common.{◌≡◌, ◌++◌, take}
use Rattle.workload.specs.Groups.{backs}
use Rattle.workload.specs.Parts.{AreOpen}
use Rattle.workload.proofs.groups.push_backs.Given as goal

abbrev pub invariant-loop-c : goal.invariant-loop-c
invariant-loop-c l = record {
  ready : AreOpen l.script;
  so_far : l.script ≡ l.initial.script ++ backs 0 (take l.c l.group);
}
