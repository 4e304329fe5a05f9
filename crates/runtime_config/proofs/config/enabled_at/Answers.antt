use Rattle.runtime_config.proofs.RefusalLemmas.{refused_from}
use Rattle.runtime_config.proofs.config.enabled_at.Goals as goal

pub returns-clause-refused : goal.returns-clause-refused
returns-clause-refused c = refused_from c.args.entries.now c.args.e c.args.text.now c.read_config.result c.read_config.ensures.fault
