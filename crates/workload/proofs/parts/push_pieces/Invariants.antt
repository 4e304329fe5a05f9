use Rattle.workload.proofs.EventLemmas.{Pushing}
use Rattle.workload.proofs.parts.push_pieces.Given as goal

abbrev pub invariant-loop-k : goal.invariant-loop-k
invariant-loop-k l = Pushing l.initial.script l.c l.bytes l.k l.script
