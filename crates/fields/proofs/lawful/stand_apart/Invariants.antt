use Rattle.std.proofs.Common.{take}
use Rattle.std.specs.List.{AllPairs}
use Rattle.fields.specs.Table.{AreApart}
use Rattle.fields.proofs.lawful.stand_apart.Given as goal

-- the rows so far have paths apart
abbrev pub invariant-loop-i : goal.invariant-loop-i
invariant-loop-i l = AllPairs (λ one other. AreApart one.path other.path) (take l.i l.rows)
