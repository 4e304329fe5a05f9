use Rattle.storage_version.proofs.ReadLemmas.{reads_known}
use Rattle.storage_version.proofs.law.earlier_release_reads_known.Goals as goal

pub returns : goal.returns
returns c =
    reads_known c.args.back.now c.args.view.now c.view_is_kept.ensures.lawful c.view_finds_each.ensures c.view_tells_tables.ensures c.view_tells_tables-2.ensures c.later_view_reads_live.ensures
