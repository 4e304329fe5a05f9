use Rattle.std.proofs.Common.{◌≡◌, ℕ, Ok, Err, IsErrOf, length, refl, ap, ◌∙◌, arith}
use Rattle.api_requests.specs.declared.fault.HandleFault.TheVariants as handle
use Rattle.session.proofs.AnswerLemmas.{amid_more, amid_none, item_as, piece_ended, piece_fault, piece_nothing}
use Rattle.session.proofs.ServingLemmas.{fault_back, fault_there, keeps_as, keeps_join, keeps_on, keeps_still, not_failed, not_failed_as, present_of, takes_none, takes_none_join}
use Rattle.session.proofs.piece.answer_all.Goals as goal
use Rattle.session.specs.declared.piece.Answered.TheVariants as answer
use Rattle.session_step.specs.Taken.{server_of}

pub loop-answered-init : goal.loop-answered-init
loop-answered-init g c =
    let d = g.W.Disk in
    let w = c.args.world.now in
    let s = c.args.service.now in
    record {
      ready = c.requires.ready;
      events = takes_none (d.beside w);
      keeps = keeps_still d.faults s w w ⊥ (λ f. f) refl;
      others = λ other apart. refl;
      told = λ told.
          amid_none d.clock d.may_leave d.beside (server_of s) w c.args.c (length (d.beside w).taken) c.args.mux.now
          (present_of d.tells d.held d.pending d.clock d.may_leave s w c.standing_service_restores.ensures c.requires.ready.stands told (g.met.W.Disk.images_now w));
    }

pub loop-answered-preserved : goal.loop-answered-preserved
loop-answered-preserved g c =
    let d = g.W.Disk in
    let h = c.loop-answered.invariant in
    let k = c.answer_next.ensures in
    let is : c.answer_next.result ≡ Ok answer.GoesOn = c.in-Ok-GoesOn.is ∙ ap Ok c.in-Ok-GoesOn.field-0-is in
    let unfailed = not_failed_as c.answer_next.result answer.GoesOn handle.Disk is in
    record {
      ready = k.ready unfailed;
      events = takes_none_join (d.beside c.args.world.now) (d.beside c.loop-answered.world) (d.beside c.answer_next.new.world) h.events k.events;
      keeps = keeps_on d.faults c.args.service.now c.loop-answered.service c.answer_next.new.service c.args.world.now c.loop-answered.world c.answer_next.new.world
          (IsErrOf c.answer_next.result handle.Disk) ⊥ h.keeps k.keeps unfailed (λ f. f);
      others = λ other apart. k.others other apart ∙ h.others other apart;
      told = λ told.
          amid_more d.clock d.may_leave d.beside (server_of c.args.service.now) (server_of c.loop-answered.service) (server_of c.answer_next.new.service) c.args.world.now
          c.loop-answered.world c.answer_next.new.world c.args.c (length (d.beside c.args.world.now).taken) c.args.mux.now c.loop-answered.mux c.answer_next.new.mux
          c.loop-answered.answered (h.told told) c.saturating_add-answered.result
          (item_as d.clock d.may_leave d.beside (server_of c.loop-answered.service) (server_of c.answer_next.new.service) c.loop-answered.world c.answer_next.new.world
          c.answer_next.result (Ok answer.GoesOn) c.args.c (length (d.beside c.loop-answered.world).taken) (length (d.beside c.args.world.now).taken) c.loop-answered.mux
          c.answer_next.new.mux is (ap length h.events.taken) (k.told told))
          ((k.ready unfailed).few told) (λ fits. omega (arith, c.saturating_add-answered.ensures));
    }

pub returns-in-Ok-Nothing-clause-told : goal.returns-in-Ok-Nothing-clause-told
returns-in-Ok-Nothing-clause-told g c told =
    let d = g.W.Disk in
    let h = c.loop-answered.invariant in
    let k = c.answer_next.ensures in
    let is : c.answer_next.result ≡ Ok answer.Nothing = c.in-Ok-Nothing.is ∙ ap Ok c.in-Ok-Nothing.field-0-is in
    piece_nothing d.clock d.may_leave d.beside (server_of c.args.service.now) (server_of c.loop-answered.service) (server_of c.answer_next.new.service) c.args.world.now
    c.loop-answered.world c.answer_next.new.world c.args.c (length (d.beside c.args.world.now).taken) c.args.mux.now c.loop-answered.mux c.answer_next.new.mux
    c.loop-answered.answered (h.told told)
    (item_as d.clock d.may_leave d.beside (server_of c.loop-answered.service) (server_of c.answer_next.new.service) c.loop-answered.world c.answer_next.new.world
    c.answer_next.result (Ok answer.Nothing) c.args.c (length (d.beside c.loop-answered.world).taken) (length (d.beside c.args.world.now).taken) c.loop-answered.mux
    c.answer_next.new.mux is (ap length h.events.taken) (k.told told))

pub returns-in-Ok-Nothing-clause-keeps : goal.returns-in-Ok-Nothing-clause-keeps
returns-in-Ok-Nothing-clause-keeps g c =
    let d = g.W.Disk in
    let is : c.answer_next.result ≡ Ok answer.Nothing = c.in-Ok-Nothing.is ∙ ap Ok c.in-Ok-Nothing.field-0-is in
    keeps_on d.faults c.args.service.now c.loop-answered.service c.answer_next.new.service c.args.world.now c.loop-answered.world c.answer_next.new.world
    (IsErrOf c.answer_next.result handle.Disk) (IsErrOf {T = ℕ} (Ok c.loop-answered.answered) handle.Disk) c.loop-answered.invariant.keeps c.answer_next.ensures.keeps
    (not_failed_as c.answer_next.result answer.Nothing handle.Disk is) (not_failed c.loop-answered.answered handle.Disk)

pub returns-in-Ok-Ended-clause-told : goal.returns-in-Ok-Ended-clause-told
returns-in-Ok-Ended-clause-told g c told =
    let d = g.W.Disk in
    let h = c.loop-answered.invariant in
    let k = c.answer_next.ensures in
    let is : c.answer_next.result ≡ Ok answer.Ended = c.in-Ok-Ended.is ∙ ap Ok c.in-Ok-Ended.field-0-is in
    let unfailed = not_failed_as c.answer_next.result answer.Ended handle.Disk is in
    piece_ended d.clock d.may_leave d.beside (server_of c.args.service.now) (server_of c.loop-answered.service) (server_of c.answer_next.new.service) c.args.world.now
    c.loop-answered.world c.answer_next.new.world c.args.c (length (d.beside c.args.world.now).taken) c.args.mux.now c.loop-answered.mux c.answer_next.new.mux
    c.loop-answered.answered (h.told told) c.saturating_add.result
    (item_as d.clock d.may_leave d.beside (server_of c.loop-answered.service) (server_of c.answer_next.new.service) c.loop-answered.world c.answer_next.new.world
    c.answer_next.result (Ok answer.Ended) c.args.c (length (d.beside c.loop-answered.world).taken) (length (d.beside c.args.world.now).taken) c.loop-answered.mux
    c.answer_next.new.mux is (ap length h.events.taken) (k.told told))
    ((k.ready unfailed).few told) (λ fits. omega (arith, c.saturating_add.ensures))

pub returns-in-Ok-Ended-clause-keeps : goal.returns-in-Ok-Ended-clause-keeps
returns-in-Ok-Ended-clause-keeps g c =
    let d = g.W.Disk in
    let is : c.answer_next.result ≡ Ok answer.Ended = c.in-Ok-Ended.is ∙ ap Ok c.in-Ok-Ended.field-0-is in
    keeps_on d.faults c.args.service.now c.loop-answered.service c.answer_next.new.service c.args.world.now c.loop-answered.world c.answer_next.new.world
    (IsErrOf c.answer_next.result handle.Disk) (IsErrOf {T = ℕ} (Ok c.saturating_add.result) handle.Disk) c.loop-answered.invariant.keeps c.answer_next.ensures.keeps
    (not_failed_as c.answer_next.result answer.Ended handle.Disk is) (not_failed c.saturating_add.result handle.Disk)

pub returns-in-Err-clause-told : goal.returns-in-Err-clause-told
returns-in-Err-clause-told g c told =
    let d = g.W.Disk in
    let h = c.loop-answered.invariant in
    let k = c.answer_next.ensures in
    piece_fault d.clock d.may_leave d.beside (server_of c.args.service.now) (server_of c.loop-answered.service) (server_of c.answer_next.new.service) c.args.world.now
    c.loop-answered.world c.answer_next.new.world c.args.c (length (d.beside c.args.world.now).taken) c.args.mux.now c.loop-answered.mux c.answer_next.new.mux
    c.loop-answered.answered (h.told told) c.in-Err.fault
    (item_as d.clock d.may_leave d.beside (server_of c.loop-answered.service) (server_of c.answer_next.new.service) c.loop-answered.world c.answer_next.new.world
    c.answer_next.result (Err c.in-Err.fault) c.args.c (length (d.beside c.loop-answered.world).taken) (length (d.beside c.args.world.now).taken) c.loop-answered.mux
    c.answer_next.new.mux c.in-Err.is (ap length h.events.taken) (k.told told))

pub returns-in-Err-clause-keeps : goal.returns-in-Err-clause-keeps
returns-in-Err-clause-keeps g c =
    let d = g.W.Disk in
    keeps_as d.faults c.args.service.now c.answer_next.new.service c.args.world.now c.answer_next.new.world (IsErrOf c.answer_next.result handle.Disk)
    (IsErrOf {T = ℕ} (Err c.in-Err.fault) handle.Disk) (fault_there {S = ℕ} c.answer_next.result c.in-Err.fault handle.Disk c.in-Err.is)
    (fault_back {S = ℕ} c.answer_next.result c.in-Err.fault handle.Disk c.in-Err.is)
    (keeps_join d.faults c.args.service.now c.loop-answered.service c.answer_next.new.service c.args.world.now c.loop-answered.world c.answer_next.new.world ⊥
    (IsErrOf c.answer_next.result handle.Disk) c.loop-answered.invariant.keeps (λ f. f) c.answer_next.ensures.keeps)
