use Rattle.std.proofs.Common.{◌≡◌, filter, not, take}
use Rattle.lifecycle.specs.Entry.{subject}
use Rattle.history_fold.specs.Folded.{is_forgotten}
use Rattle.history_fold.proofs.kept.kept_apis.Given as goal

abbrev pub invariant-loop-entry : goal.invariant-loop-entry
invariant-loop-entry l = l.kept ≡ filter (λ x. not (is_forgotten l.apis l.fn.floor (subject x))) (take l.entry-index l.apis)
