use Rattle.std.proofs.Common.{◌≡◌, take}
use Rattle.lifecycle.specs.Tables.{cutoff as apis_by}
use Rattle.history_cut.proofs.kept.kept_apis.Given as goal

abbrev pub invariant-loop-entry : goal.invariant-loop-entry
invariant-loop-entry l = l.kept ≡ apis_by (take l.entry-index l.entries) l.o
