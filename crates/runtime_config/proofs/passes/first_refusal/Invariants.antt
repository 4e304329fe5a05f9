use Rattle.std.proofs.Common.{ℕ, List, take, All}
use Rattle.lifecycle.specs.declared.entry.ApiEntry.{ApiEntry}
use Rattle.lifecycle.specs.Tables.{cutoff}
use Rattle.runtime_config.specs.Config.{IsTakenKey}
use Rattle.runtime_config.specs.Standings.{HasStandings}
use Rattle.runtime_config.proofs.passes.first_refusal.Given as goal

abbrev pub invariant-loop-piece : goal.invariant-loop-piece
invariant-loop-piece l = (entries : List ApiEntry) (e : ℕ) → HasStandings (cutoff entries e) e entries l.known → All (λ p. IsTakenKey (cutoff entries e) p.name) (take l.piece-index l.last)
