use Rattle.flag_text.specs.Pieces.{pieces}
use Rattle.gate_spec.specs.Gates.{cutoff}
use Rattle.gate_flags.proofs.AnswerLemmas.{one_fault, either}
use Rattle.gate_flags.proofs.CutLemmas.{values_one}
use Rattle.gate_flags.proofs.EitherLemmas.{valid_or_faulty}
use Rattle.gate_flags.proofs.law.text_has_one_answer.Goals as goal

pub returns : goal.returns
returns c = record {
  one_set = values_one (cutoff c.args.entries.now c.args.e) (pieces c.args.text.now);
  one_fault = one_fault c.args.entries.now c.args.e c.args.text.now c.requires;
  either = either c.args.entries.now c.args.e c.args.text.now c.requires;
  some = valid_or_faulty c.args.entries.now c.args.e c.args.text.now c.requires;
}
