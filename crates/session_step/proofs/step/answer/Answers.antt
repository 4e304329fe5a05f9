use Rattle.std.proofs.Common.{◌∙◌, sym, refl, ap, not, ◌&&◌, Bool, is_ok}
use Rattle.conn_mux.specs.Items.{item_of}
use Rattle.session_step.proofs.AnswerLemmas.{course_disk, course_memory, course_sent, no_fault, present_of, raised}
use Rattle.session_step.specs.Taken.{server_of}
use Rattle.session_step.proofs.step.answer.Goals as goal

pub returns-in_err-outgoing-clause-disk : goal.returns-in_err-outgoing-clause-disk
returns-in_err-outgoing-clause-disk g c told fault =
    let d = g.W.Disk in
    let now = g.met.W.Disk.images_now in
    let old = c.args.service.now in
    let from = c.args.world.now in
    let e = c.in_err-outgoing.ensures in
    course_disk d.tells d.clock d.may_leave d.held d.pending d.beside now (server_of old) (server_of c.carried.new.service) (item_of c.args.incoming.now) c.args.c from c.carried.new.world
    (present_of d.tells d.clock d.may_leave d.held d.pending d.beside now old from c.standing_service_restores.ensures c.requires.stands told)
    (e.same refl) e.beside (e.tried told (raised c.from_residual.result c.in_err-outgoing.field-0.0 _ c.from_residual.ensures.1 fault))

pub returns-in_err-outgoing-clause-memory : goal.returns-in_err-outgoing-clause-memory
returns-in_err-outgoing-clause-memory g c told fault =
    let d = g.W.Disk in
    let now = g.met.W.Disk.images_now in
    let old = c.args.service.now in
    let from = c.args.world.now in
    let e = c.in_err-outgoing.ensures in
    let handed = raised c.from_residual.result c.in_err-outgoing.field-0.0 _ c.from_residual.ensures.1 fault in
    course_memory d.tells d.clock d.may_leave d.held d.pending d.beside now (server_of old) (server_of c.carried.new.service) from c.carried.new.world
    (present_of d.tells d.clock d.may_leave d.held d.pending d.beside now old from c.standing_service_restores.ensures c.requires.stands told)
    (e.same refl) (e.clock handed) e.beside (e.idle told handed)

pub returns-then-went-clause-ok : goal.returns-then-went-clause-ok
returns-then-went-clause-ok g c told =
    let d = g.W.Disk in
    let now = g.met.W.Disk.images_now in
    let old = c.args.service.now in
    let from = c.args.world.now in
    let o = c.in_ok-outgoing.outgoing in
    let e = c.in_ok-outgoing.ensures in
    let s = c.send.ensures in
    let went = sym c.is_ok-went.ensures.value ∙ c.if-went.true in
    course_sent d.tells d.clock d.may_leave d.held d.pending d.beside now old c.carried.new.service (item_of c.args.incoming.now) c.args.c o (is_ok c.send.result) (not o.last) from c.carried.new.world c.send.new.self
    (sym (ap (λ (w : Bool). w && not o.last) went))
    (present_of d.tells d.clock d.may_leave d.held d.pending d.beside now old from c.standing_service_restores.ensures c.requires.stands told)
    e.done (e.safe told) e.beside (s.sends told) s.clock (s.time told).later (s.same told)
    c.standing_service_restores-2.ensures (e.stands (no_fault o _)) told

pub returns-else-went-clause-ok : goal.returns-else-went-clause-ok
returns-else-went-clause-ok g c told =
    let d = g.W.Disk in
    let now = g.met.W.Disk.images_now in
    let old = c.args.service.now in
    let from = c.args.world.now in
    let o = c.in_ok-outgoing.outgoing in
    let e = c.in_ok-outgoing.ensures in
    let s = c.send.ensures in
    let failed = sym c.is_ok-went.ensures.value ∙ c.if-went.false in
    course_sent d.tells d.clock d.may_leave d.held d.pending d.beside now old c.carried.new.service (item_of c.args.incoming.now) c.args.c o (is_ok c.send.result) c.is_ok-went.result from c.carried.new.world c.send.new.self
    (c.if-went.false ∙ sym (ap (λ (w : Bool). w && not o.last) failed))
    (present_of d.tells d.clock d.may_leave d.held d.pending d.beside now old from c.standing_service_restores.ensures c.requires.stands told)
    e.done (e.safe told) e.beside (s.sends told) s.clock (s.time told).later (s.same told)
    c.standing_service_restores-2.ensures (e.stands (no_fault o _)) told
