use Rattle.std.proofs.Common.{◌≡◌, ◌∙◌, ◌&&◌, ap, not, sym, rules}
use Rattle.gate_spec.specs.Gates.{is_spec}
use Rattle.gate_spec.specs.declared.entry.GateEntry.{GateEntry}
use Rattle.history_fold.specs.Folded.{is_past}
use Rattle.history_fold.proofs.ListLemmas.{front_keeps, front_leaves}
use Rattle.history_fold.proofs.kept.kept_gates.Goals as goal
use Rattle.history_fold.proofs.kept.kept_gates.Goals.{then-not-is_past+in_ok-copy+in_ok-push, else-not-is_past}

pub loop-entry-preserved : goal.loop-entry-preserved
loop-entry-preserved c =
    let x = c.entry-item.result in
    let keeps = λ (y : GateEntry). not (is_past c.args.gates.now c.args.floor y) in
    let said : is_past c.args.gates.now c.args.floor x ≡ c.is_past.result =
    sym (c.is_past.ensures ∙ ap (λ b. is_spec x.change && b) (c.in_ok-latest.ensures x)) in
    elim c.if-not-is_past.branch [
      | then-not-is_past+in_ok-copy+in_ok-push w ↦ front_keeps keeps c.args.gates.now c.loop-entry.entry-index x c.loop-entry.kept c.if-not-is_past.kept (search rules) (search rules) c.loop-entry.invariant (ap not (said ∙ w.if-not-is_past.true)) (search rules)
      | else-not-is_past w ↦ front_leaves keeps c.args.gates.now c.loop-entry.entry-index x c.loop-entry.kept c.if-not-is_past.kept (search rules) (search rules) c.loop-entry.invariant (ap not (said ∙ w.if-not-is_past.false)) (search rules)
    ]
