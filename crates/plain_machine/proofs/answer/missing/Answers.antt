use Rattle.std.proofs.Common.{ℕ, List, ◌++◌, ◌∙◌, ap, codes}
use Rattle.std.proofs.lemmas.Result.{IfOk-weaker}
use Rattle.plain_machine.specs.Answers.{refusal}
use Rattle.plain_machine.proofs.answer.missing.Goals as goal

pub returns : goal.returns
returns c =
    let object = c.as_str.ensures.value ∙ c.in_ok-object.ensures in
    let path = c.as_str-2.ensures.value ∙ c.in_ok-path.ensures in
    let message = c.as_str-3.ensures.value
    ∙ (c.in_ok-message.ensures ∙ (λ i. object i ++ (codes " is invalid: " ++ (path i ++ codes ": Required value")))) in
    IfOk-weaker c.refusal.result _ _ (λ a is. is ∙ ap (λ (m : List ℕ). refusal 422 (codes "Invalid") m) message) c.refusal.ensures
