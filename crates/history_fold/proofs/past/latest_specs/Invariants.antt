use Rattle.std.proofs.Common.{take}
use Rattle.history_fold.specs.ByName.{HasLatestSpecs}
use Rattle.history_fold.proofs.past.latest_specs.Given as goal

abbrev pub invariant-loop-entry : goal.invariant-loop-entry
invariant-loop-entry l = HasLatestSpecs l.floor (take l.entry-index l.gates) l.latest
