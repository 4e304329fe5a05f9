use Rattle.std.proofs.Common.{◌≡◌, filter, not, take}
use Rattle.history_fold.specs.Folded.{is_forgotten, version_of}
use Rattle.history_fold.proofs.kept.kept_spells.Given as goal

abbrev pub invariant-loop-spell : goal.invariant-loop-spell
invariant-loop-spell l = l.kept ≡ filter (λ s. not (is_forgotten l.apis l.fn.floor (version_of s))) (take l.spell-index l.spells)
