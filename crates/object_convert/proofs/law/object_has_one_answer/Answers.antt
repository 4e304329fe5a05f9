use Rattle.object_convert.proofs.AnswerLemmas.{one_answer}
use Rattle.object_convert.proofs.law.object_has_one_answer.Goals as goal

pub returns : goal.returns
returns c = one_answer c.args.view.now.versions c.args.object.now c.args.to.now
