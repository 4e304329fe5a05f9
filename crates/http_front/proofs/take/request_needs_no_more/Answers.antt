use Rattle.http_front.proofs.ItemLemmas.{request_alone}
use Rattle.http_front.proofs.take.request_needs_no_more.Goals as goal

pub returns : goal.returns
returns c = λ taken behind h. request_alone c.args.stream.now taken behind h
