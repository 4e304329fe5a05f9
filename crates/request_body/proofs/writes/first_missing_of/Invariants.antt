use Rattle.std.proofs.Common.{All, take}
use Rattle.request_body.specs.Writes.{IsProvided}
use Rattle.request_body.proofs.writes.first_missing_of.Given as goal

-- no row so far is missing
abbrev pub invariant-loop-row : goal.invariant-loop-row
invariant-loop-row l = All (IsProvided l.fields) (take l.row-index l.rows)
