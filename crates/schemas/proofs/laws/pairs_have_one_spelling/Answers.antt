use Rattle.schemas.proofs.FieldLawLemmas.{pairs_spelled_once, pairs_kept}
use Rattle.schemas.proofs.laws.pairs_have_one_spelling.Goals as goal

pub returns : goal.returns
returns c = (pairs_spelled_once c.args.h.now, pairs_kept c.args.h.now)
