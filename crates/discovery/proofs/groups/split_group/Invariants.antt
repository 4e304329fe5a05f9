use Rattle.std.proofs.Common.{take}
use Rattle.discovery.specs.Order.{AreIn}
use Rattle.discovery.proofs.groups.split_group.Given as goal

abbrev pub invariant-loop-i : goal.invariant-loop-i
invariant-loop-i l = AreIn l.group (take l.i l.served)
