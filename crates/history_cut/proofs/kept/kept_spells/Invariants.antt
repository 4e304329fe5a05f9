use Rattle.std.proofs.Common.{◌≡◌, take}
use Rattle.schemas.specs.Cutoff.{spells_by}
use Rattle.history_cut.proofs.kept.kept_spells.Given as goal

abbrev pub invariant-loop-spell : goal.invariant-loop-spell
invariant-loop-spell l = l.kept ≡ spells_by (take l.spell-index l.spells) l.o
