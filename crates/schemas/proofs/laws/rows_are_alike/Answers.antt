use Rattle.schemas.proofs.RowLemmas.{alike_at}
use Rattle.schemas.proofs.laws.rows_are_alike.Goals as goal

pub returns : goal.returns
returns c = alike_at c.args.h.now
