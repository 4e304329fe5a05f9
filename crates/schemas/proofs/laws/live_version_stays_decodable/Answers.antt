use Rattle.schemas.proofs.FieldLawLemmas.{stays_decodable}
use Rattle.schemas.proofs.AcceptedLemmas as hr
use Rattle.schemas.proofs.laws.live_version_stays_decodable.Goals as goal

pub returns : goal.returns
returns c = λ accepted. stays_decodable c.args.h.now.apis (hr.forgettings_late c.args.h.now accepted)
