use Rattle.twin.proofs.RunLemmas.{whole_of}
use Rattle.twin.proofs.running.serve_whole.Goals as goal

pub returns-in-Ok : goal.returns-in-Ok
returns-in-Ok g c told =
    let d = g.W.Disk in
    whole_of d.clock d.may_leave d.held d.pending d.beside (record { view = c.args.views.view; release = c.args.release; back = c.args.views.back.minor })
    c.args.views.back c.args.world.now c.serve_store.new.world c.in-Ok.served (c.in-Ok.ensures.ends told) (c.serve_store.ensures.drawn told)
