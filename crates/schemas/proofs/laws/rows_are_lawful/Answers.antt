use Rattle.std.proofs.Common.{subst}
use Rattle.schemas.specs.Dated.{IsShaped}
use Rattle.schemas.proofs.RowLemmas.{lawful_at}
use Rattle.schemas.proofs.laws.rows_are_lawful.Goals as goal

pub returns : goal.returns
returns c = λ accepted. lawful_at c.args.h.now accepted (subst IsShaped c.h.view_is c.h.invariant)
