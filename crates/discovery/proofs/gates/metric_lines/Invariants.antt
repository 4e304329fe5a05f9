use Rattle.std.proofs.Common.{◌≡◌, take, string_bytes}
use Rattle.discovery.specs.Metrics.{metric_lines}
use Rattle.discovery.proofs.gates.metric_lines.Given as goal

abbrev pub invariant-loop-row : goal.invariant-loop-row
invariant-loop-row l = string_bytes l.text ≡ metric_lines (take l.row-index l.rows)
