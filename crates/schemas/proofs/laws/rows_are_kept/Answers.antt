use Rattle.schemas.proofs.RowLemmas.{kept_at}
use Rattle.schemas.proofs.laws.rows_are_kept.Goals as goal

pub returns : goal.returns
returns c = kept_at c.args.h.now
