use Rattle.world.proofs.GrowthLemmas.{shuts_at_last, stays_shut}
use Rattle.world.proofs.law.last_replies_shut.Goals as goal

pub returns : goal.returns
returns c = record { last = shuts_at_last; stays = stays_shut }
