use Rattle.std.proofs.Common.{◌≡◌, take}
use Rattle.workload.specs.Groups.{opens}
use Rattle.workload.proofs.script.opened.Given as goal

abbrev pub invariant-loop-c : goal.invariant-loop-c
invariant-loop-c l = l.script ≡ take l._c opens
