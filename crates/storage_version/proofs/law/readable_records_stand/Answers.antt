use Rattle.storage_version.proofs.BackLemmas.{stands_where_readable}
use Rattle.storage_version.proofs.law.readable_records_stand.Goals as goal

pub returns : goal.returns
returns c =
    stands_where_readable c.args.back.now c.args.view.now c.view_finds_each.ensures c.view_finds_each-2.ensures c.view_is_kept.ensures.alike c.later_view_reads_live.ensures
