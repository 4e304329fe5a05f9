use Rattle.std.proofs.Common.{◌≡◌, ◌-◌, ◌≤◌, List, ◌++◌, length, drop}
use Rattle.httparse.specs.Grammar.{LineEnd, print_blank}
use Rattle.http_front.proofs.head.skipped_len.Given as goal

abbrev pub invariant-loop-len : goal.invariant-loop-len
invariant-loop-len l =
    (l.at ≤ length l.bytes) × ((skipped : List LineEnd) × (l.bytes ≡ print_blank skipped ++ drop l.at l.bytes))

abbrev pub decreases-loop-len : goal.decreases-loop-len
decreases-loop-len l = length l.bytes - l.at
