use Rattle.std.proofs.Common.{◌<◌, ◌≤◌, rules}
use Rattle.gate_spec.proofs.GateLemmas.{spec_at_first, spec_at_later, spec_at_spec, spec_at_gone}
use Rattle.gate_spec.proofs.entry.SpecAt.after.Goals as goal

pub returns-in-Never-clause-known : goal.returns-in-Never-clause-known
returns-in-Never-clause-known c =
    let later : c.args.e < c.args.entry.now.since = search rules in
    λ earlier older before. spec_at_first earlier c.args.entry.now c.args.e later (rw c.in-Never.is at before)

pub returns-in_default-clause-known : goal.returns-in_default-clause-known
returns-in_default-clause-known c =
    let later : c.args.e < c.args.entry.now.since = search rules in
    λ earlier older before. spec_at_later earlier c.args.entry.now c.args.entry.now.name c.args.e c.args.self later c.in_default.not-Never before

pub returns-in-Spec-clause-known : goal.returns-in-Spec-clause-known
returns-in-Spec-clause-known c =
    let known : c.args.entry.now.since ≤ c.args.e = search rules in
    λ earlier older before. spec_at_spec earlier c.args.entry.now c.args.e c.in-Spec.stage c.in-Spec.default c.in-Spec.locked known c.in-Spec.is older

pub returns-in-Gone-clause-known : goal.returns-in-Gone-clause-known
returns-in-Gone-clause-known c =
    let known : c.args.entry.now.since ≤ c.args.e = search rules in
    λ earlier older before. spec_at_gone earlier c.args.entry.now c.args.e c.last_default.result known c.in-Gone.is older (c.last_default.ensures.newest earlier c.args.entry.now.name c.args.e before)
