use Rattle.std.proofs.lemmas.Result.{IfOk-weaker}
use Rattle.stored_change.proofs.ChangeLemmas.{put_stored}
use Rattle.stored_change.proofs.entry.ready_object.Goals as goal

pub returns-clause-entry : goal.returns-clause-entry
returns-clause-entry c = IfOk-weaker c.ready_body.result _ _
    (λ e put. put_stored c.args.back.now.versions c.args.view.now.versions c.args.store.now.items c.args.store.now.journal.revision c.args.key.now c.in_ok-key.key c.args.object.now c.table_for-table.result.now c.in_ok-body.body e
    c.table_for-table.ensures.table c.in_ok-body.ensures c.requires.created c.requires.next c.in_ok-key.ensures put)
    c.ready_body.ensures.entry
