use Rattle.std.proofs.Common.{take}
use Rattle.gate_spec.specs.Gates.{IsSpecAt}
use Rattle.gate_spec.proofs.in_force.spec_at.Given as goal

abbrev pub invariant-loop-entry : goal.invariant-loop-entry
invariant-loop-entry l = IsSpecAt (take l.entry-index l.entries) l.name l.e l.spec
