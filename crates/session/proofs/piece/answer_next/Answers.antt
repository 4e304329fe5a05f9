use Rattle.std.proofs.Common.{Err, Option, ap, length, subst}
use Rattle.conn_mux.specs.Held.{Takes}
use Rattle.conn_mux.specs.declared.incoming.Incoming.{Incoming}
use Rattle.session.proofs.AnswerLemmas.{item_fault, item_nothing, item_unbegun}
use Rattle.session.proofs.ServingLemmas.{present_of}
use Rattle.session.proofs.piece.answer_next.Goals as goal
use Rattle.session_step.specs.Taken.{server_of}

pub returns-in-Ok-None-clause-told : goal.returns-in-Ok-None-clause-told
returns-in-Ok-None-clause-told g c told =
    let d = g.W.Disk in
    let w = c.args.world.now in
    let s = c.args.service.now in
    item_nothing d.clock d.may_leave d.beside (server_of s) w c.args.c (length (d.beside w).taken) c.args.mux.now c.take.new.self
    (present_of d.tells d.held d.pending d.clock d.may_leave s w c.standing_service_restores.ensures c.requires.ready.stands told (g.met.W.Disk.images_now w))
    (subst (λ (o : Option Incoming). Takes c.args.mux.now c.args.c o c.take.new.self) c.in-Ok-None.field-0-is c.in-Ok-None.ensures.ok)

pub returns-in-Err-clause-told : goal.returns-in-Err-clause-told
returns-in-Err-clause-told g c told =
    let d = g.W.Disk in
    let w = c.args.world.now in
    let s = c.args.service.now in
    item_unbegun d.clock d.may_leave d.beside (server_of s) w c.args.c (length (d.beside w).taken) c.args.mux.now c.take.new.self
    (present_of d.tells d.held d.pending d.clock d.may_leave s w c.standing_service_restores.ensures c.requires.ready.stands told (g.met.W.Disk.images_now w))

pub returns-clause-told : goal.returns-clause-told
returns-clause-told g c told =
    let d = g.W.Disk in
    let w = c.args.world.now in
    let s = c.args.service.now in
    item_fault d.clock d.may_leave d.beside (server_of s) (server_of c.answer.new.service) w c.answer.new.world c.args.c c.args.mux.now c.take.new.self c.in-Ok-Some.incoming
    (subst (λ (o : Option Incoming). Takes c.args.mux.now c.args.c o c.take.new.self) c.in-Ok-Some.field-0-is c.in-Ok-Some.ensures.ok)
    c.in-Err-answer.fault
    (λ same. c.in-Err-answer.ensures.disk told (ap Err same))
    (λ same. c.in-Err-answer.ensures.memory told (ap Err same))
