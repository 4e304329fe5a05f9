use Rattle.std.proofs.Common.{◌≡◌, take, string_bytes}
use Rattle.commands.specs.Gates.{gate_lines}
use Rattle.commands.proofs.gates.listed_gates.Given as goal

abbrev pub invariant-loop-row : goal.invariant-loop-row
invariant-loop-row l = string_bytes l.text ≡ gate_lines (take l.row-index l.row-items)
