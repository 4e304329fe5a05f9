use Rattle.std.proofs.Common.{◌≡◌, take, map}
use Rattle.history_reader.proofs.words.path_of.Given as goal

-- the segments so far are copied
abbrev pub invariant-loop-segment : goal.invariant-loop-segment
invariant-loop-segment l = l.path ≡ map (λ s. s.now) (take l.segment-index l.segments)
