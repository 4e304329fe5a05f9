use Rattle.std.proofs.Common.{take}
use Rattle.history_fold.specs.ByName.{HasForgotten}
use Rattle.history_fold.proofs.past.forgotten_versions.Given as goal

abbrev pub invariant-loop-entry : goal.invariant-loop-entry
invariant-loop-entry l = HasForgotten l.floor (take l.entry-index l.apis) l.forgotten
