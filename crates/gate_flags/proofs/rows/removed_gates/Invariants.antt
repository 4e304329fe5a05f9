use Rattle.std.proofs.Common.{◌≡◌, ◌++◌}
use Rattle.std.specs.List.{filter_map}
use Rattle.gate_flags.specs.Lookups.{removed_of, removed_gates_of}
use Rattle.gate_flags.proofs.rows.removed_gates.Given as goal

abbrev pub invariant-loop-gate : goal.invariant-loop-gate
invariant-loop-gate l = l.removed.items ++ filter_map (λ k. removed_of k.name.now k.spec) l.gate-iterator ≡ removed_gates_of l.known
