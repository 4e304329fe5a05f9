use Rattle.std.proofs.Common.{take}
use Rattle.release_view.specs.Parts.{IsGathered}
use Rattle.release_view.proofs.build.gathered.Given as goal

abbrev pub invariant-loop-entry : goal.invariant-loop-entry
invariant-loop-entry l = IsGathered (record { apis = l.index; source = l.rows }) l.on (take l.entry-index l.entries) l.versions.keys
