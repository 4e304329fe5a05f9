use Rattle.http_front.proofs.ItemLemmas.{one_answer}
use Rattle.http_front.proofs.take.stream_has_one_answer.Goals as goal

pub returns : goal.returns
returns c = λ a b h k. one_answer c.args.stream.now a b h k
