use Rattle.flag_text.specs.Passes.{HasBoolean, LacksBoolean}
use Rattle.flag_text.specs.declared.vocabulary.Vocabulary.TheVariants.{Plain}
use Rattle.flag_text.proofs.PassLemmas.{first_with}
use Rattle.runtime_config.specs.Config.{IsPair, HasFault}
use Rattle.runtime_config.proofs.passes.first_fault.Goals as goal

pub returns-in-Some-clause-some : goal.returns-in-Some-clause-some
returns-in-Some-clause-some c =
    let h = c.in-Some.ensures.some in
    first_with (HasBoolean Plain) IsPair (λ p. LacksBoolean Plain p _) (λ p. HasFault p c.cause_named.result) c.args.pieces.now _ (λ p fine. fine) h (c.cause_named.ensures h.piece h.first.faulty)
