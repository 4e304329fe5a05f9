use Rattle.std.proofs.Common.{ℕ, List, take, All}
use Rattle.gate_spec.specs.declared.entry.GateEntry.{GateEntry}
use Rattle.gate_spec.specs.Gates.{cutoff}
use Rattle.gate_flags.specs.Lookups.{KnowsGates}
use Rattle.gate_flags.specs.Flags.{IsAccepted}
use Rattle.gate_flags.proofs.passes.first_refusal.Given as goal

abbrev pub invariant-loop-piece : goal.invariant-loop-piece
invariant-loop-piece l = (entries : List GateEntry) (e : ℕ) → KnowsGates entries e l.known → All (IsAccepted (cutoff entries e)) (take l.piece-index l.last)
