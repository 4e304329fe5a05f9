use Rattle.gate_flags.proofs.CutLemmas.{taken_alike}
use Rattle.gate_flags.proofs.law.texts_by_same_gates.Goals as goal

pub returns : goal.returns
returns c = taken_alike c.args.tables.now c.args.others.now c.args.text.now c.requires
