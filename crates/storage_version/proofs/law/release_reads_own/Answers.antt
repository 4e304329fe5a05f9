use Rattle.storage_version.proofs.ReadLemmas.{reads_own, reads_fitting}
use Rattle.storage_version.proofs.law.release_reads_own.Goals as goal

pub returns : goal.returns
returns c = record {
  own = reads_own c.args.view.now.versions c.view_is_kept.ensures.lawful c.view_finds_each.ensures;
  fitting = reads_fitting c.args.view.now.versions c.view_is_kept.ensures.lawful c.view_is_kept.ensures.alike;
}
