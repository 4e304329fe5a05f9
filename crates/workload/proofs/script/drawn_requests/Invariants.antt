use Rattle.std.proofs.Common.{◌≡◌, ◌≤◌, All, length}
use Rattle.workload.specs.Workload.{AreDrawn}
use Rattle.workload.proofs.script.drawn_requests.Given as goal

abbrev pub invariant-loop-i : goal.invariant-loop-i
invariant-loop-i l = record {
  drawn : AreDrawn l.view l.fn.seed l.requests.items l.draws.x;
  count : length l.requests.items ≡ l._i;
  within : All (λ r. r.cut ≤ length r.bytes) l.requests.items;
}
