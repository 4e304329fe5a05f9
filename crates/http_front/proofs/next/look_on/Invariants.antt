use Rattle.http_front.specs.Waits.{IsLookedAt}
use Rattle.http_front.proofs.next.look_on.Given as goal

abbrev pub invariant-loop-at : goal.invariant-loop-at
invariant-loop-at l = IsLookedAt l.buf l.at l.lines
