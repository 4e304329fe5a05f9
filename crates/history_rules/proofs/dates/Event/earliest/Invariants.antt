use Rattle.std.proofs.Common.{take}
use Rattle.history_rules.specs.Dates.{HasEarliest}
use Rattle.history_rules.proofs.dates.Event.earliest.Given as goal

abbrev pub invariant-loop-entry : goal.invariant-loop-entry
invariant-loop-entry l = HasEarliest l.self (take l.entry-index l.entries) l.dates
