use Rattle.std.proofs.lemmas.Bool.{false≢true}
use Rattle.session_step.proofs.CarryLemmas.{carried_out, changes_state, safe_done, tried_change}
use Rattle.session_step.proofs.step.carry_out.Goals as goal

pub returns-in-Ok-clause-done : goal.returns-in-Ok-clause-done
returns-in-Ok-clause-done g c =
    carried_out c.args.service.now c.prepare.new.self c.finish.new.self c.args.request.now c.in_ok-prepared.prepared c.in_ok-outgoing.outgoing c.reply.result.now
    c.reply.ensures c.in_ok-prepared.ensures.same c.in_ok-prepared.ensures.decided c.in-Ok.ensures.next c.in-Ok.ensures.on c.in_ok-outgoing.ensures.bytes c.in_ok-outgoing.ensures.last

pub returns-in-Ok-clause-safe : goal.returns-in-Ok-clause-safe
returns-in-Ok-clause-safe g c told =
    let d = g.W.Disk in
    safe_done d.clock d.may_leave d.held d.pending c.args.service.now c.prepare.new.self c.finish.new.self c.in_ok-prepared.prepared _ c.args.world.now c.room.new.self c.finish.new.disk
    c.in_ok-prepared.ensures.same c.in-Ok.ensures.next c.in_ok-room.ensures.clock (c.in_ok-room.ensures.same told) (c.in-Ok.ensures.writes told)

pub returns-in-Err-clause-tried : goal.returns-in-Err-clause-tried
returns-in-Err-clause-tried g c told _ =
    let d = g.W.Disk in
    tried_change d.clock d.may_leave d.held d.pending c.args.service.now c.prepare.new.self c.args.request.now c.in_ok-prepared.prepared _ c.args.world.now c.room.new.self c.finish.new.disk
    c.service_is_kept.ensures.serves c.in_ok-prepared.ensures.same c.in_ok-prepared.ensures.decided c.in_ok-room.ensures.clock (c.in_ok-room.ensures.same told) (c.in-Err.ensures.writes told)

pub returns-in-Err-clause-changes : goal.returns-in-Err-clause-changes
returns-in-Err-clause-changes g c _ =
    changes_state c.args.service.now c.args.request.now c.in_ok-prepared.prepared c.service_is_kept.ensures.serves c.in_ok-prepared.ensures.decided
    (λ none. let ok = (c.in-Err.ensures.idle none).0 in absurd (false≢true ok))
