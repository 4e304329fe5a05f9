use Rattle.served_steps.proofs.GoingLemmas.{kept_after_steps, kept_go_on_standing}
use Rattle.served_steps.proofs.law.kept_records_go_on_standing.Goals as goal

pub returns : goal.returns
returns c =
    let back = c.args.back.now in
    let m = c.args.machine.now in
    record {
      standing = kept_go_on_standing back m c.view_finds_each.ensures c.view_is_kept.ensures c.later_view_reads_live.ensures c.served_have_texts.ensures c.records_go_on_standing.ensures c.records_are_kept.ensures;
      kept = kept_after_steps back m c.view_finds_each.ensures c.view_is_kept.ensures c.later_view_reads_live.ensures c.served_have_texts.ensures c.records_go_on_standing.ensures c.records_are_kept.ensures;
    }
