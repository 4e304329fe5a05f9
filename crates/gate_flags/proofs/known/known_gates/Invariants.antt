use Rattle.std.proofs.Common.{take}
use Rattle.gate_flags.specs.Lookups.{KnowsGates}
use Rattle.gate_flags.proofs.known.known_gates.Given as goal

abbrev pub invariant-loop-entry : goal.invariant-loop-entry
invariant-loop-entry l = KnowsGates (take l.entry-index l.entries) l.e l.known
