use Rattle.std.proofs.Common.{All, subst, arith, ◌∙◌}
use Rattle.std.proofs.lemmas.List.{take_all}
use Rattle.std.proofs.lemmas.List.Elements.{All-more}
use Rattle.served_steps.specs.Texts.{HasTexts}
use Rattle.served_steps.proofs.texts.served_have_texts.Goals as goal

pub loop-served-preserved : goal.loop-served-preserved
loop-served-preserved c =
    let Has = HasTexts c.args.back.now.versions c.args.view.now.versions in
    All-more Has c.served-served-items.result.now c.loop-served.served-index c.served-item.result (omega arith) c.loop-served.invariant (subst Has c.served-item.is c.version_has_texts.ensures)

pub returns : goal.returns
returns c =
    let Has = HasTexts c.args.back.now.versions c.args.view.now.versions in
    subst (All Has) (take_all c.loop-served.served-index c.served-served-items.result.now (omega arith) ∙ c.served-served-items.ensures.value) c.loop-served.invariant
