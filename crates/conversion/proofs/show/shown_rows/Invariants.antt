use Rattle.std.proofs.Common.{take}
use Rattle.serde_json.specs.View.{view}
use Rattle.conversion.specs.Showing.{Shows}
use Rattle.conversion.proofs.show.shown_rows.Given as goal

-- the rows so far are shown
abbrev pub invariant-loop-row : goal.invariant-loop-row
invariant-loop-row l = Shows (take l.row-index l.rows) l.fields (view l.shown)
