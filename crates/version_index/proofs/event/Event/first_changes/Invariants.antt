use Rattle.std.proofs.Common.{take}
use Rattle.lifecycle.specs.Tables.{cutoff}
use Rattle.version_index.specs.Events.{HasFirstChanges}
use Rattle.version_index.proofs.event.Event.first_changes.Given as goal

abbrev pub invariant-loop-entry : goal.invariant-loop-entry
invariant-loop-entry l = HasFirstChanges l.self (cutoff (take l.entry-index l.entries) l.e) l.map
