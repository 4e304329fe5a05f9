use Rattle.std.proofs.Common.{take}
use Rattle.gate_spec.specs.Gates.{RisesInDate}
use Rattle.gate_spec.proofs.in_force.rises_in_date.Given as goal

abbrev pub invariant-loop-index : goal.invariant-loop-index
invariant-loop-index l = RisesInDate (take l.index l.entries)
