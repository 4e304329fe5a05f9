use Rattle.std.proofs.Common.{◌-◌, Ok, Err, length, take, subst, sym, arith}
use Rattle.api_requests.specs.declared.fault.HandleFault.TheVariants as handle
use Rattle.session.proofs.EventLemmas.{event_closed, event_end, event_opened, event_piece, opened_unbegun, piece_unbegun}
use Rattle.session.proofs.ServingLemmas.{present_of}
use Rattle.session.proofs.event.serve_event.Goals as goal
use Rattle.session.specs.Calls.{Answers}
use Rattle.session.specs.Comings.{EventComesTo}
use Rattle.session_step.specs.Taken.{server_of}
use Rattle.world.specs.Events.{front_event}
use Rattle.world.specs.declared.event.Event.{Event}

pub returns-in-Ok-clause-told : goal.returns-in-Ok-clause-told
returns-in-Ok-clause-told g c told =
    let d = g.W.Disk in
    let w = c.args.world.now in
    let s = c.args.service.now in
    let seen = length (d.beside w).taken in
    let present = present_of d.tells d.held d.pending d.clock d.may_leave s w c.standing_service_restores.ensures c.requires.ready.stands told (g.met.W.Disk.images_now w) in
    subst (λ (e : Event). Answers d.clock d.may_leave d.beside (server_of s) (server_of c.args.service.now) w c.args.world.now
    (EventComesTo (Ok 0) (front_event e c.args.buffer.now) seen c.args.mux.now c.opened.new.self)) (sym c.in-Opened.is)
    (event_opened d.clock d.may_leave d.beside (server_of s) w c.in-Opened.c seen c.args.mux.now c.opened.new.self present c.in-Ok.ensures.ok)

pub returns-in-Err-clause-told : goal.returns-in-Err-clause-told
returns-in-Err-clause-told g c told =
    let d = g.W.Disk in
    let w = c.args.world.now in
    let s = c.args.service.now in
    let seen = length (d.beside w).taken in
    let present = present_of d.tells d.held d.pending d.clock d.may_leave s w c.standing_service_restores.ensures c.requires.ready.stands told (g.met.W.Disk.images_now w) in
    subst (λ (e : Event). Answers d.clock d.may_leave d.beside (server_of s) (server_of c.args.service.now) w c.args.world.now
    (EventComesTo (Err handle.Memory) (front_event e c.args.buffer.now) seen c.args.mux.now c.opened.new.self)) (sym c.in-Opened.is)
    (opened_unbegun d.clock d.may_leave d.beside (server_of s) w c.in-Opened.c seen c.args.mux.now c.opened.new.self present)

pub returns-in-Ok-piece-clause-told : goal.returns-in-Ok-piece-clause-told
returns-in-Ok-piece-clause-told g c told =
    let d = g.W.Disk in
    let w = c.args.world.now in
    let s = c.args.service.now in
    let seen = length (d.beside w).taken in
    subst (λ (e : Event). Answers d.clock d.may_leave d.beside (server_of s) (server_of c.answer_all.new.service) w c.answer_all.new.world
    (EventComesTo (c.answer_all.result) (front_event e c.args.buffer.now) seen c.args.mux.now c.answer_all.new.mux)) (sym c.in-Piece.is)
    (event_piece d.clock d.may_leave d.beside c.answer_all.result (server_of s) (server_of c.answer_all.new.service) w c.answer_all.new.world c.in-Piece.c seen (take c.in-Piece.n c.args.buffer.now) c.args.mux.now c.piece.new.self c.answer_all.new.mux
    c.in-Ok-piece.ensures.ok (c.answer_all.ensures.told told))

pub returns-in-Err-piece-clause-told : goal.returns-in-Err-piece-clause-told
returns-in-Err-piece-clause-told g c told =
    let d = g.W.Disk in
    let w = c.args.world.now in
    let s = c.args.service.now in
    let seen = length (d.beside w).taken in
    let present = present_of d.tells d.held d.pending d.clock d.may_leave s w c.standing_service_restores.ensures c.requires.ready.stands told (g.met.W.Disk.images_now w) in
    subst (λ (e : Event). Answers d.clock d.may_leave d.beside (server_of s) (server_of c.args.service.now) w c.args.world.now
    (EventComesTo (Err handle.Memory) (front_event e c.args.buffer.now) seen c.args.mux.now c.piece.new.self)) (sym c.in-Piece.is)
    (piece_unbegun d.clock d.may_leave d.beside (server_of s) w c.in-Piece.c seen (take c.in-Piece.n c.args.buffer.now) c.args.mux.now c.piece.new.self present)

pub returns-in-Closed-clause-told : goal.returns-in-Closed-clause-told
returns-in-Closed-clause-told g c told =
    let d = g.W.Disk in
    let w = c.args.world.now in
    let s = c.args.service.now in
    let seen = length (d.beside w).taken in
    let present = present_of d.tells d.held d.pending d.clock d.may_leave s w c.standing_service_restores.ensures c.requires.ready.stands told (g.met.W.Disk.images_now w) in
    subst (λ (e : Event). Answers d.clock d.may_leave d.beside (server_of s) (server_of c.args.service.now) w c.args.world.now
    (EventComesTo (Ok 0) (front_event e c.args.buffer.now) seen c.args.mux.now c.closed.new.self)) (sym c.in-Closed.is)
    (event_closed d.clock d.may_leave d.beside (server_of s) w c.in-Closed.c seen c.args.mux.now c.closed.new.self present c.closed.ensures)

pub returns-in-End-clause-told : goal.returns-in-End-clause-told
returns-in-End-clause-told g c told =
    let d = g.W.Disk in
    let w = c.args.world.now in
    let s = c.args.service.now in
    let seen = length (d.beside w).taken in
    let present = present_of d.tells d.held d.pending d.clock d.may_leave s w c.standing_service_restores.ensures c.requires.ready.stands told (g.met.W.Disk.images_now w) in
    subst (λ (e : Event). Answers d.clock d.may_leave d.beside (server_of s) (server_of c.args.service.now) w c.args.world.now
    (EventComesTo (Ok 0) (front_event e c.args.buffer.now) seen c.args.mux.now c.args.mux.now)) (sym c.in-End.is)
    (event_end d.clock d.may_leave d.beside (server_of s) w seen c.args.mux.now present)
