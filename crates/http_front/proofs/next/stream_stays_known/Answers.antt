use Rattle.http_front.proofs.WaitLemmas.{stays_known}
use Rattle.http_front.proofs.next.stream_stays_known.Goals as goal

pub returns : goal.returns
returns c = λ more known h. stays_known c.args.stream.now more known h
