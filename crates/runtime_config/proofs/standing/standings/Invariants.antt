use Rattle.std.proofs.Common.{take}
use Rattle.runtime_config.specs.Rows.{entries_of}
use Rattle.runtime_config.specs.Standings.{HasStandings}
use Rattle.runtime_config.proofs.standing.standings.Given as goal

abbrev pub invariant-loop-row : goal.invariant-loop-row
invariant-loop-row l = HasStandings l.index l.e (entries_of (take l.row-index l.rows)) l.known
