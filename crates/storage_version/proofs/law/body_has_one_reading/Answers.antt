use Rattle.storage_version.proofs.ReadLemmas.{reads_once}
use Rattle.storage_version.proofs.law.body_has_one_reading.Goals as goal

pub returns : goal.returns
returns c = reads_once c.args.view.now.versions
