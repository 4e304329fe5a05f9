use Rattle.std.proofs.Common.{◌≡◌, ◌∙◌, ap, not, sym, rules}
use Rattle.lifecycle.specs.Entry.{subject}
use Rattle.lifecycle.specs.declared.entry.ApiEntry.{ApiEntry}
use Rattle.history_fold.specs.ByName.{has_version}
use Rattle.history_fold.specs.Folded.{is_forgotten}
use Rattle.history_fold.proofs.ListLemmas.{front_keeps, front_leaves}
use Rattle.history_fold.proofs.kept.kept_apis.Goals as goal
use Rattle.history_fold.proofs.kept.kept_apis.Goals.{then-not-is_forgotten+in_ok-copy+in_ok-push, else-not-is_forgotten}

pub loop-entry-preserved : goal.loop-entry-preserved
loop-entry-preserved c =
    let x = c.entry-item.result in
    let keeps = λ (y : ApiEntry). not (is_forgotten c.args.apis.now c.args.floor (subject y)) in
    let said : is_forgotten c.args.apis.now c.args.floor (subject x) ≡ c.is_forgotten.result =
    sym (c.is_forgotten.ensures ∙ ap (has_version c.in_ok-forgotten.forgotten) c.name.ensures ∙ c.in_ok-forgotten.ensures (subject x)) in
    elim c.if-not-is_forgotten.branch [
      | then-not-is_forgotten+in_ok-copy+in_ok-push w ↦ front_keeps keeps c.args.apis.now c.loop-entry.entry-index x c.loop-entry.kept c.if-not-is_forgotten.kept (search rules) (search rules) c.loop-entry.invariant (ap not (said ∙ w.if-not-is_forgotten.true)) (search rules)
      | else-not-is_forgotten w ↦ front_leaves keeps c.args.apis.now c.loop-entry.entry-index x c.loop-entry.kept c.if-not-is_forgotten.kept (search rules) (search rules) c.loop-entry.invariant (ap not (said ∙ w.if-not-is_forgotten.false)) (search rules)
    ]
