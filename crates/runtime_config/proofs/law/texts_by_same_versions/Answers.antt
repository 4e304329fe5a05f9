use Rattle.runtime_config.proofs.CutLemmas.{taken_alike}
use Rattle.runtime_config.proofs.law.texts_by_same_versions.Goals as goal

pub returns : goal.returns
returns c = taken_alike c.args.tables.now c.args.others.now c.args.text.now c.requires
