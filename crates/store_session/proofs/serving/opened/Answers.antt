use Rattle.std.proofs.Common.{Err, ◌∙◌, ap}
use Rattle.store_session.proofs.OpeningLemmas.{all_same, content_same, moments_keep, opening_of, was_synced}
use Rattle.store_session.proofs.serving.opened.Goals as goal

pub returns-in-Ok-clause-moments : goal.returns-in-Ok-clause-moments
returns-in-Ok-clause-moments g c told =
    let d = g.W.Disk in
    let synced = was_synced d.clock d.may_leave d.held d.pending c.args.world.now c.open_store.new.disk c.in-Ok.store (c.in-Ok.ensures.opens told) in
    moments_keep d.clock d.may_leave d.held d.pending c.args.world.now c.open_store.new.disk synced.time

pub returns-in-Ok-clause-content : goal.returns-in-Ok-clause-content
returns-in-Ok-clause-content g c told =
    let d = g.W.Disk in
    content_same (d.held c.args.world.now) (d.held c.open_store.new.disk) c.in-Ok.store.journal.base c.in-Ok.store.items c.in-Ok.store.journal.revision
    (c.in-Ok.ensures.opens told).journal.others.held (c.in-Ok.ensures.mended told) (c.in-Ok.ensures.recovered told)

pub returns-in-Ok-clause-opening : goal.returns-in-Ok-clause-opening
returns-in-Ok-clause-opening g c told =
    let d = g.W.Disk in
    opening_of d.clock d.may_leave d.held d.pending c.args.world.now c.open_store.new.disk d.beside c.open_store.result c.open_store.ensures.spares.same (c.open_store.ensures.opens told)

pub returns-in-Err-NotAStore-clause-opening : goal.returns-in-Err-NotAStore-clause-opening
returns-in-Err-NotAStore-clause-opening g c told =
    let d = g.W.Disk in
    opening_of d.clock d.may_leave d.held d.pending c.args.world.now c.open_store.new.disk d.beside c.open_store.result c.open_store.ensures.spares.same (c.open_store.ensures.opens told)

pub returns-in-Err-NotAStore-clause-ends : goal.returns-in-Err-NotAStore-clause-ends
returns-in-Err-NotAStore-clause-ends g c told =
    let d = g.W.Disk in
    let x = c.in-Err-NotAStore in
    let refused = (c.open_store.ensures.opens told).journal.refused x.file x.at (x.is ∙ ap Err x.field-0-is) in (
      (refused.0, refused.1),
      all_same (d.held c.args.world.now) (d.held c.open_store.new.disk) refused.2,
    )

pub returns-in-Err-Disk-clause-opening : goal.returns-in-Err-Disk-clause-opening
returns-in-Err-Disk-clause-opening g c told =
    let d = g.W.Disk in
    opening_of d.clock d.may_leave d.held d.pending c.args.world.now c.open_store.new.disk d.beside c.open_store.result c.open_store.ensures.spares.same (c.open_store.ensures.opens told)

pub returns-in-Err-Memory-clause-opening : goal.returns-in-Err-Memory-clause-opening
returns-in-Err-Memory-clause-opening g c told =
    let d = g.W.Disk in
    opening_of d.clock d.may_leave d.held d.pending c.args.world.now c.open_store.new.disk d.beside c.open_store.result c.open_store.ensures.spares.same (c.open_store.ensures.opens told)
