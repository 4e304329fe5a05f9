use Rattle.std.proofs.Common.{ℕ, List, ◌++◌, ◌∙◌, ap, codes}
use Rattle.std.proofs.lemmas.Result.{IfOk-weaker}
use Rattle.plain_machine.specs.Answers.{refusal}
use Rattle.plain_machine.specs.Refusals.{conflict_text}
use Rattle.plain_machine.proofs.answer.conflict.Goals as goal

pub returns : goal.returns
returns c =
    let object = c.as_str.ensures.value ∙ c.in_ok-object.ensures in
    let message = c.as_str-2.ensures.value ∙ (c.in_ok-message.ensures ∙ ap (λ (o : List ℕ). codes "Operation cannot be fulfilled on " ++ (o ++ conflict_text)) object) in
    IfOk-weaker c.refusal.result _ _ (λ a is. is ∙ ap (λ (m : List ℕ). refusal 409 (codes "Conflict") m) message) c.refusal.ensures
