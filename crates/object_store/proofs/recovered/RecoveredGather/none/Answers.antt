use Rattle.object_store.proofs.LeftLemmas.{none_left}
use Rattle.object_store.proofs.recovered.RecoveredGather.none.Goals as goal

pub returns : goal.returns
returns c = none_left c.new.result c.new.ensures.empty
