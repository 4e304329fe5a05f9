use Rattle.storage_version.proofs.StepLemmas.{keeps_records}
use Rattle.storage_version.proofs.law.records_are_kept.Goals as goal

pub returns : goal.returns
returns c = keeps_records c.args.back.now c.args.view.now
