use Rattle.gate_flags.proofs.PassLemmas.{refused_from}
use Rattle.gate_flags.proofs.flags.gate_values.Goals as goal

pub returns-clause-refused : goal.returns-clause-refused
returns-clause-refused c = refused_from c.args.entries.now c.args.e c.args.text.now c.read_values.result c.requires c.read_values.ensures.fault
