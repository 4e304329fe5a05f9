use Rattle.std.proofs.Common.{take, All}
use Rattle.served_steps.specs.Texts.{HasTexts}
use Rattle.served_steps.proofs.texts.served_have_texts.Given as goal

-- the versions so far have their texts
abbrev pub invariant-loop-served : goal.invariant-loop-served
invariant-loop-served l = All (HasTexts l.back.versions l.view.versions) (take l.served-index l.served-items)
