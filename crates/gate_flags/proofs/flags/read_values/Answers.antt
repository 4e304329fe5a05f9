use Rattle.std.proofs.Common.{All, ap, subst, ◌∙◌}
use Rattle.gate_spec.specs.Gates.{cutoff}
use Rattle.flag_text.specs.Pieces.{last_pieces}
use Rattle.flag_text.specs.Said.{HasSaid}
use Rattle.flag_text.specs.declared.vocabulary.Vocabulary.TheVariants.{Go}
use Rattle.gate_flags.specs.Flags.{IsAssignment, IsAccepted}
use Rattle.gate_flags.proofs.PassLemmas.{refusal_is}
use Rattle.gate_flags.proofs.RowLemmas.{made_in_order, values_are}
use Rattle.gate_flags.proofs.flags.read_values.Goals as goal

pub returns-in-Some-first_refusal-clause-fault : goal.returns-in-Some-first_refusal-clause-fault
returns-in-Some-first_refusal-clause-fault c =
    refusal_is c.args.entries.now c.args.e c.args.text.now c.deref-2.result.now c.in-Some-first_refusal.fault
    (subst (λ ps. All IsAssignment ps) (c.deref.ensures.value ∙ c.in_ok-pieces.ensures) c.in_default.ensures.none)
    (c.deref-2.ensures.value ∙ c.in_ok-last.ensures.order ∙ ap last_pieces c.in_ok-pieces.ensures)
    (c.in-Some-first_refusal.ensures.some c.args.entries.now c.args.e c.in_ok-known.ensures)

pub new-requires : goal.new-requires
new-requires c = made_in_order c.args.entries.now c.args.e c.in_ok-known.known c.in_ok-known.ensures c.in_ok-last.last.booleans c.in_ok-rows.rows.items c.in_ok-removed.removed.items c.in_ok-rows.ensures c.in_ok-removed.ensures

pub returns-clause-accepted : goal.returns-clause-accepted
returns-clause-accepted c = record {
  assignments = subst (λ ps. All IsAssignment ps) (c.deref.ensures.value ∙ c.in_ok-pieces.ensures) c.in_default.ensures.none;
  accepted = subst (λ ps. All (IsAccepted (cutoff c.args.entries.now c.args.e)) ps) (c.deref-2.ensures.value ∙ c.in_ok-last.ensures.order ∙ ap last_pieces c.in_ok-pieces.ensures)
      (c.in_default-first_refusal.ensures.none c.args.entries.now c.args.e c.in_ok-known.ensures);
}

pub returns-clause-values : goal.returns-clause-values
returns-clause-values c =
    values_are c.args.entries.now c.args.e c.in_ok-known.known c.in_ok-known.ensures _ c.in_ok-last.last.booleans c.new.result c.requires
    (subst (λ ps. HasSaid Go ps c.in_ok-last.last.booleans) c.in_ok-pieces.ensures c.in_ok-last.ensures.booleans)
    (c.new.ensures.rows ∙ c.in_ok-rows.ensures) (c.new.ensures.removed ∙ c.in_ok-removed.ensures)
