use Rattle.http_front.proofs.ItemLemmas.{splits_once}
use Rattle.http_front.proofs.take.stream_splits_once.Goals as goal

pub returns : goal.returns
returns c = λ items others rest left h k. splits_once c.args.stream.now items others rest left h k
