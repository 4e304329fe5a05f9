use Rattle.std.proofs.Common.{◌≡◌, ◌++◌}
use Rattle.std.specs.List.{filter_map}
use Rattle.gate_flags.specs.Lookups.{row_of, rows_of}
use Rattle.gate_flags.proofs.rows.rows.Given as goal

abbrev pub invariant-loop-gate : goal.invariant-loop-gate
invariant-loop-gate l = l.rows.items ++ filter_map (λ k. row_of l.booleans k.name.now k.spec) l.gate-iterator ≡ rows_of l.booleans l.known
