use Rattle.std.proofs.Common.{take}
use Rattle.served_steps.specs.Texts.{HaveTextDefaults}
use Rattle.served_steps.proofs.texts.defaults_are_texts.Given as goal

-- the defaults of the rows so far are texts
abbrev pub invariant-loop-row : goal.invariant-loop-row
invariant-loop-row l = HaveTextDefaults (take l.row-index l.rows)
