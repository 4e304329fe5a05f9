use Rattle.std.proofs.Common.{◌≡◌, take}
use Rattle.gate_spec.specs.Gates.{cutoff as gates_by}
use Rattle.history_cut.proofs.kept.kept_gates.Given as goal

abbrev pub invariant-loop-entry : goal.invariant-loop-entry
invariant-loop-entry l = l.kept ≡ gates_by (take l.entry-index l.entries) l.o
