use Rattle.std.proofs.Common.{◌≡◌, length, take}
use Rattle.std.specs.List.{sum_by}
use Rattle.twin.proofs.sends.bytes_in.Given as goal

abbrev pub invariant-loop-sent : goal.invariant-loop-sent
invariant-loop-sent l = l.total ≡ sum_by (λ s. length s.bytes) (take l.sent-index l.sends)
