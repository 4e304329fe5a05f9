use Rattle.std.proofs.Common.{take}
use Rattle.conversion.specs.Code.{AreNamed}
use Rattle.conversion.proofs.fitting.are_named.Given as goal

-- the pairs so far are of rows
abbrev pub invariant-loop-pair : goal.invariant-loop-pair
invariant-loop-pair l = AreNamed l.rows (take l.pair-index l.pairs)
