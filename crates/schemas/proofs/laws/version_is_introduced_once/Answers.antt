use Rattle.schemas.proofs.LawLemmas.{introduced_once}
use Rattle.schemas.proofs.laws.version_is_introduced_once.Goals as goal

pub returns : goal.returns
returns c = introduced_once c.args.h.now
