use Rattle.std.proofs.Common.{take, All}
use Rattle.flag_text.specs.Passes.{HasBoolean}
use Rattle.flag_text.proofs.pass.first_pair_fault.Given as goal

abbrev pub invariant-loop-piece : goal.invariant-loop-piece
invariant-loop-piece l = All (HasBoolean l.vocabulary) (take l.piece-index l.pieces)
