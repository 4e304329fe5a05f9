use Rattle.schemas.proofs.RowLemmas.{row_at}
use Rattle.schemas.proofs.laws.each_field_has_row.Goals as goal

pub returns : goal.returns
returns c = row_at c.args.h.now
