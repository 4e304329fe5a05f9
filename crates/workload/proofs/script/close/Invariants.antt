use Rattle.std.proofs.Common.{◌≡◌, ◌++◌, take}
use Rattle.workload.specs.Groups.{closes}
use Rattle.workload.proofs.script.close.Given as goal

abbrev pub invariant-loop-c : goal.invariant-loop-c
invariant-loop-c l = l.script ≡ l.initial.script ++ take l.c closes
