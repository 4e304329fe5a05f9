use Rattle.schemas.proofs.FieldLawLemmas.{paths_apart}
use Rattle.schemas.proofs.laws.paths_are_apart.Goals as goal

pub returns : goal.returns
returns c = paths_apart c.args.h.now
