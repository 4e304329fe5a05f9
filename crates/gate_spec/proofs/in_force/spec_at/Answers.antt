use Rattle.std.proofs.Common.{◌≡◌, ◌≤◌, length, rules, subst}
use Rattle.std.proofs.lemmas.List.{take_all}
use Rattle.gate_spec.specs.Gates.{IsSpecAt}
use Rattle.gate_spec.proofs.GateLemmas.{spec_at_read, spec_at_passed}
use Rattle.gate_spec.proofs.in_force.spec_at.Goals as goal
use Rattle.gate_spec.proofs.in_force.spec_at.Goals.{then-eq, else-eq}

pub loop-entry-preserved : goal.loop-entry-preserved
loop-entry-preserved c =
    let x = c.entry-item.result in
    elim c.if-eq.branch [
      | then-eq w ↦
          let same : x.name ≡ c.args.name.now = search rules in
          rw w.spec-is (spec_at_read c.args.entries.now c.loop-entry.entry-index x c.args.name.now c.args.e c.loop-entry.spec w.after-spec.result c.requires c.loop-entry-test.true c.entry-item.is same c.loop-entry.invariant w.after-spec.ensures.known)
      | else-eq w ↦
          let other : x.name ≡ c.args.name.now → ⊥ = search rules in
          rw w.spec-is (spec_at_passed c.args.entries.now c.loop-entry.entry-index x c.args.name.now c.args.e c.loop-entry.spec c.loop-entry-test.true c.entry-item.is other c.loop-entry.invariant)
    ]

pub returns : goal.returns
returns c =
    let whole : length c.args.entries.now ≤ c.loop-entry.entry-index = search rules in
    subst (λ xs. IsSpecAt xs c.args.name.now c.args.e c.loop-entry.spec) (take_all c.loop-entry.entry-index c.args.entries.now whole) c.loop-entry.invariant
