use Rattle.schemas.specs.Rules.{checks}
use Rattle.schemas.proofs.LawLemmas.{one_first_fault}
use Rattle.schemas.proofs.laws.first_fault_is_one.Goals as goal

pub returns : goal.returns
returns c = one_first_fault c.args.h.now checks
