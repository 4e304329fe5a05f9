use Rattle.gate_spec.proofs.GateLemmas.{spec_at_one}
use Rattle.gate_spec.proofs.ThereLemmas.{spec_there}
use Rattle.gate_spec.proofs.law.gate_has_one_spec.Goals as goal

pub returns : goal.returns
returns c =
    let entries = c.args.entries.now in
    let there = spec_there entries c.args.name.now c.args.e c.requires in
    (there.0, there.1, λ b known. spec_at_one entries c.args.name.now c.args.e b there.0 c.requires known there.1)
