use Rattle.schemas.proofs.LawLemmas.{gates_rise}
use Rattle.schemas.proofs.laws.gates_rise_in_date.Goals as goal

pub returns : goal.returns
returns c = gates_rise c.args.h.now
