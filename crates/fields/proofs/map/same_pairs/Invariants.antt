use Rattle.std.proofs.Common.{◌≡◌, take}
use Rattle.fields.proofs.map.same_pairs.Given as goal

-- the pairs so far are the same
abbrev pub invariant-loop-i : goal.invariant-loop-i
invariant-loop-i l = take l.i l.pairs ≡ take l.i l.others
