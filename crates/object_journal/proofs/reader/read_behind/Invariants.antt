use Rattle.std.proofs.Common.{◌-◌, length}
use Rattle.object_journal.specs.Readings.{GathersTo}
use Rattle.object_journal.proofs.reader.read_behind.Given as goal

abbrev pub invariant-loop-place : goal.invariant-loop-place
invariant-loop-place g l = GathersTo g.G.Gather.is_of l.reading l.gathered l.bytes l.place

abbrev pub decreases-loop-place : goal.decreases-loop-place
decreases-loop-place g l = length l.bytes - l.place
