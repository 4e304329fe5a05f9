use Rattle.flag_text.specs.Passes.{HasBoolean, LacksBoolean}
use Rattle.flag_text.specs.declared.vocabulary.Vocabulary.TheVariants.{Go}
use Rattle.flag_text.proofs.PassLemmas.{first_with}
use Rattle.gate_flags.specs.Flags.{IsAssignment, HasFault}
use Rattle.gate_flags.proofs.passes.first_fault.Goals as goal

pub returns-in-Some-clause-some : goal.returns-in-Some-clause-some
returns-in-Some-clause-some c =
    let h = c.in-Some.ensures.some in
    first_with (HasBoolean Go) IsAssignment (λ p. LacksBoolean Go p _) (λ p. HasFault p c.cause_named.result) c.args.pieces.now _ (λ p fine. fine) h (c.cause_named.ensures h.piece h.first.faulty)
