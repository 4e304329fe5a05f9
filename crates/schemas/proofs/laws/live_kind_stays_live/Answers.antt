use Rattle.schemas.proofs.LawLemmas.{kinds_stay_live}
use Rattle.schemas.proofs.laws.live_kind_stays_live.Goals as goal

pub returns : goal.returns
returns c = kinds_stay_live c.args.h.now
