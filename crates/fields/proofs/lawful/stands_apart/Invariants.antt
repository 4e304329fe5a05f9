use Rattle.std.proofs.Common.{take, All}
use Rattle.fields.specs.Table.{AreApart}
use Rattle.fields.proofs.lawful.stands_apart.Given as goal

-- the rows so far have paths apart from the row's
abbrev pub invariant-loop-other : goal.invariant-loop-other
invariant-loop-other l = All (λ other. AreApart other.path l.row.path) (take l.other-index l.rows)
