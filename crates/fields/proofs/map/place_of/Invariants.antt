use Rattle.std.proofs.Common.{take}
use Rattle.fields.specs.Places.{AreBelow}
use Rattle.fields.proofs.map.place_of.Given as goal

-- the pairs so far are below the id
abbrev pub invariant-loop-i : goal.invariant-loop-i
invariant-loop-i l = AreBelow l.id (take l.i l.pairs)
