use Rattle.http_front.proofs.WaitLemmas.{nothing_known}
use Rattle.http_front.proofs.next.nothing_known.Goals as goal

pub returns : goal.returns
returns c = nothing_known
