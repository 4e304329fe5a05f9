use Rattle.std.proofs.Common.{◌≡◌, filter, not, take}
use Rattle.history_fold.specs.Folded.{is_past}
use Rattle.history_fold.proofs.kept.kept_gates.Given as goal

abbrev pub invariant-loop-entry : goal.invariant-loop-entry
invariant-loop-entry l = l.kept ≡ filter (λ x. not (is_past l.gates l.fn.floor x)) (take l.entry-index l.gates)
