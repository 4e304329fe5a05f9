use Rattle.runtime_config.proofs.AnswerLemmas.{one_set, one_fault, either}
use Rattle.runtime_config.proofs.EitherLemmas.{valid_or_faulty}
use Rattle.runtime_config.proofs.law.config_has_one_answer.Goals as goal

pub returns : goal.returns
returns c = record {
  one_set = one_set c.args.entries.now c.args.e c.args.text.now;
  one_fault = one_fault c.args.entries.now c.args.e c.args.text.now;
  either = either c.args.entries.now c.args.e c.args.text.now;
  some = valid_or_faulty c.args.entries.now c.args.e c.args.text.now;
}
