use Rattle.std.proofs.Common.{take}
use Rattle.serde_json.specs.View.{view}
use Rattle.conversion.specs.Reading.{Reads}
use Rattle.conversion.proofs.read.read_rows.Given as goal

-- the rows so far are read
abbrev pub invariant-loop-row : goal.invariant-loop-row
invariant-loop-row l = Reads l.mode (take l.row-index l.rows) (view l.json) l.fields
