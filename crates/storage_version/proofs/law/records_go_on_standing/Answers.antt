use Rattle.storage_version.proofs.StepLemmas.{goes_on_standing}
use Rattle.storage_version.proofs.law.records_go_on_standing.Goals as goal

pub returns : goal.returns
returns c =
    goes_on_standing c.args.back.now c.args.view.now c.release_reads_own.ensures.own c.body_has_one_reading.ensures c.body_has_one_reading-2.ensures c.earlier_release_reads_known.ensures
