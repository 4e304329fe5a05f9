use Rattle.std.proofs.Common.{◌≡◌, ◌∙◌, ap, not, sym, rules}
use Rattle.fields.specs.declared.field.Spell.{Spell}
use Rattle.history_fold.specs.ByName.{has_version}
use Rattle.history_fold.specs.Folded.{is_forgotten, version_of}
use Rattle.history_fold.proofs.ListLemmas.{front_keeps, front_leaves}
use Rattle.history_fold.proofs.kept.kept_spells.Goals as goal
use Rattle.history_fold.proofs.kept.kept_spells.Goals.{then-not-is_forgotten+in_ok-copy+in_ok-push, else-not-is_forgotten}

pub loop-spell-preserved : goal.loop-spell-preserved
loop-spell-preserved c =
    let s = c.spell-item.result in
    let keeps = λ (t : Spell). not (is_forgotten c.args.apis.now c.args.floor (version_of t)) in
    let said : is_forgotten c.args.apis.now c.args.floor (version_of s) ≡ c.is_forgotten.result =
    sym (c.is_forgotten.ensures ∙ ap (has_version c.in_ok-forgotten.forgotten) c.version_of.ensures ∙ c.in_ok-forgotten.ensures (version_of s)) in
    elim c.if-not-is_forgotten.branch [
      | then-not-is_forgotten+in_ok-copy+in_ok-push w ↦ front_keeps keeps c.args.spells.now c.loop-spell.spell-index s c.loop-spell.kept c.if-not-is_forgotten.kept (search rules) (search rules) c.loop-spell.invariant (ap not (said ∙ w.if-not-is_forgotten.true)) (search rules)
      | else-not-is_forgotten w ↦ front_leaves keeps c.args.spells.now c.loop-spell.spell-index s c.loop-spell.kept c.if-not-is_forgotten.kept (search rules) (search rules) c.loop-spell.invariant (ap not (said ∙ w.if-not-is_forgotten.false)) (search rules)
    ]
