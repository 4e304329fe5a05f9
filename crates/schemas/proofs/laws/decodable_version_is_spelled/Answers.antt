use Rattle.schemas.proofs.FieldLawLemmas.{decodable_spelled}
use Rattle.schemas.proofs.laws.decodable_version_is_spelled.Goals as goal

pub returns : goal.returns
returns c = decodable_spelled c.args.h.now
