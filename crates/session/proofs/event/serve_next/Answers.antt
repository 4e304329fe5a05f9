use Rattle.std.proofs.Common.{ℕ, ◌≤◌, Option, Some, Result, Ok, Err, IsErrOf, length, sym, ap, subst}
use Rattle.api_requests.specs.declared.fault.HandleFault.{HandleFault}
use Rattle.api_requests.specs.declared.fault.HandleFault.TheVariants as handle
use Rattle.session.proofs.EventLemmas.{next_end, next_failed, next_of, next_served}
use Rattle.session.proofs.NextLemmas.{disk_back, disk_there, not_end, not_front, opened_later, takes_end, takes_event}
use Rattle.session.proofs.ServingLemmas.{keeps_as, keeps_join, keeps_on, keeps_still, not_failed, not_failed_as, present_of}
use Rattle.session.proofs.event.serve_next.Goals as goal
use Rattle.session.specs.Calls.{Answers}
use Rattle.session.specs.Comings.{EventComesTo, NextComesTo}
use Rattle.session_ends.proofs.DrawnLemmas.{drawn_first, drawn_join, drawn_none}
use Rattle.session_ends.proofs.PieceLemmas.{fresh_more}
use Rattle.session_ends.specs.Pieces.{AreFresh}
use Rattle.session_ends.specs.declared.fault.SessionFault.{SessionFault}
use Rattle.session_ends.specs.declared.fault.SessionFault.TheVariants as fault
use Rattle.session_step.specs.Taken.{server_of}
use Rattle.world.specs.Events.{front_event}
use Rattle.world.specs.Fronts.{TakesOne}
use Rattle.world.specs.declared.event.Event.{Event}

pub returns-in-Err-clause-told : goal.returns-in-Err-clause-told
returns-in-Err-clause-told g c told =
    let d = g.W.Disk in
    let w = c.args.world.now in
    let s = c.args.service.now in
    next_failed d.clock d.may_leave d.beside (server_of s) w c.next.new.self
    (present_of d.tells d.held d.pending d.clock d.may_leave s w c.standing_service_restores.ensures c.requires.ready.stands told (g.met.W.Disk.images_now w))
    c.next.ensures.clock c.next.ensures.sends.sends (c.next.ensures.same told).kept c.args.mux.now c.in-Err.ensures.failed.taken

pub returns-in-End-clause-told : goal.returns-in-End-clause-told
returns-in-End-clause-told g c told =
    let d = g.W.Disk in
    let w = c.args.world.now in
    let s = c.args.service.now in
    let one = subst (λ (e : Event). TakesOne (front_event e c.next.new.into) (d.beside w) (d.beside c.next.new.self)) c.in-End.is (c.in-Ok.ensures.one told) in
    next_end d.clock d.may_leave d.beside (server_of s) w c.next.new.self
    (present_of d.tells d.held d.pending d.clock d.may_leave s w c.standing_service_restores.ensures c.requires.ready.stands told (g.met.W.Disk.images_now w))
    c.next.ensures.clock c.next.ensures.sends.sends (c.next.ensures.same told).kept c.args.mux.now
    (takes_end (d.beside w) (d.beside c.next.new.self) (c.requires.going told) one)

pub returns-in-Err-clause-drawn : goal.returns-in-Err-clause-drawn
returns-in-Err-clause-drawn g c told =
    let d = g.W.Disk in
    drawn_none (length c.args.buffer.now) (d.beside c.args.world.now) (d.beside c.next.new.self) c.in-Err.ensures.failed.taken c.in-Err.ensures.failed.coming

pub returns-in-End-clause-drawn : goal.returns-in-End-clause-drawn
returns-in-End-clause-drawn g c told =
    let d = g.W.Disk in
    drawn_first (length c.args.buffer.now) (front_event c.in-Ok.event c.next.new.into) (d.beside c.args.world.now) (d.beside c.next.new.self) (c.in-Ok.ensures.first told)

pub returns-in-Ok-serve_event : goal.returns-in-Ok-serve_event
returns-in-Ok-serve_event g c =
    let d = g.W.Disk in
    let w = c.args.world.now in
    let mid = c.next.new.self in
    let to = c.serve_event.new.world in
    let s = c.args.service.now in
    let after = c.serve_event.new.service in
    let had = c.args.mux.now in
    let held = c.serve_event.new.mux in
    let event = front_event c.in-Ok.event c.next.new.into in
    let r = c.serve_event.result in
    let k = c.serve_event.ensures in
    let answered = c.in-Ok-serve_event.answered in
    let is = c.in-Ok-serve_event.is in
    let unfailed = not_failed_as r answered handle.Disk is in
    let later : (d.beside w).opened ≤ (d.beside mid).opened = opened_later (length c.args.buffer.now) (d.beside w).opened (d.beside mid).opened c.in-Ok.event c.in-Ok.ensures.numbered in
    record {
      told = λ told.
          let other = not_end c.in-Ok.event c.next.new.into c.in_default.not-End in
          subst (λ (q : Result ℕ HandleFault). Answers d.clock d.may_leave d.beside (server_of s) (server_of after) w to (NextComesTo (next_of q) (d.beside w).taken (d.beside to).taken had held)) is
          (next_served d.clock d.may_leave d.beside (server_of s) w mid
          (present_of d.tells d.held d.pending d.clock d.may_leave s w c.standing_service_restores.ensures c.requires.ready.stands told (g.met.W.Disk.images_now w))
          c.next.ensures.clock c.next.ensures.sends.sends (c.next.ensures.same told).kept r (server_of after) to event had held
          (takes_event (d.beside w) (d.beside mid) (d.beside to) event (c.requires.going told) other (c.in-Ok.ensures.one told) k.events.taken)
          (subst (λ (n : ℕ). Answers d.clock d.may_leave d.beside (server_of s) (server_of after) mid to (EventComesTo r event n had held)) (ap length (sym k.events.taken)) (k.told told)));
      drawn = λ told.
          let room = length c.args.buffer.now in
          drawn_join room (d.beside w) (d.beside mid) (d.beside to) (drawn_first room event (d.beside w) (d.beside mid) (c.in-Ok.ensures.first told))
          (drawn_none room (d.beside mid) (d.beside to) k.events.taken k.events.coming);
      fresh = subst (λ (o : ℕ). AreFresh o held) (sym k.events.opened) (k.fresh (fresh_more (d.beside w).opened (d.beside mid).opened had later c.requires.fresh));
      ready = λ fine. k.ready unfailed;
      front = λ failed. absurd (not_failed (Some answered) fault.Front failed);
      keeps = keeps_on d.faults s s after w mid to (IsErrOf r handle.Disk) (IsErrOf {T = Option ℕ} (Ok (Some answered)) fault.Disk)
          (keeps_still d.faults s w mid ⊥ (λ f. f) c.next.ensures.faults) k.keeps unfailed (not_failed (Some answered) fault.Disk);
    }

pub returns-in-Err-serve_event : goal.returns-in-Err-serve_event
returns-in-Err-serve_event g c =
    let d = g.W.Disk in
    let w = c.args.world.now in
    let mid = c.next.new.self in
    let to = c.serve_event.new.world in
    let s = c.args.service.now in
    let after = c.serve_event.new.service in
    let had = c.args.mux.now in
    let held = c.serve_event.new.mux in
    let event = front_event c.in-Ok.event c.next.new.into in
    let r = c.serve_event.result in
    let k = c.serve_event.ensures in
    let e = c.in-Err-serve_event.fault in
    let is = c.in-Err-serve_event.is in
    let later : (d.beside w).opened ≤ (d.beside mid).opened = opened_later (length c.args.buffer.now) (d.beside w).opened (d.beside mid).opened c.in-Ok.event c.in-Ok.ensures.numbered in
    record {
      told = λ told.
          let other = not_end c.in-Ok.event c.next.new.into c.in_default.not-End in
          let served =
          subst (λ (q : Result ℕ HandleFault). Answers d.clock d.may_leave d.beside (server_of s) (server_of after) w to (NextComesTo (next_of q) (d.beside w).taken (d.beside to).taken had held)) is
          (next_served d.clock d.may_leave d.beside (server_of s) w mid
          (present_of d.tells d.held d.pending d.clock d.may_leave s w c.standing_service_restores.ensures c.requires.ready.stands told (g.met.W.Disk.images_now w))
          c.next.ensures.clock c.next.ensures.sends.sends (c.next.ensures.same told).kept r (server_of after) to event had held
          (takes_event (d.beside w) (d.beside mid) (d.beside to) event (c.requires.going told) other (c.in-Ok.ensures.one told) k.events.taken)
          (subst (λ (n : ℕ). Answers d.clock d.may_leave d.beside (server_of s) (server_of after) mid to (EventComesTo r event n had held)) (ap length (sym k.events.taken)) (k.told told))) in
          subst (λ (q : SessionFault). Answers d.clock d.may_leave d.beside (server_of s) (server_of after) w to (NextComesTo (Err q) (d.beside w).taken (d.beside to).taken had held)) (sym c.fault_of.ensures) served;
      drawn = λ told.
          let room = length c.args.buffer.now in
          drawn_join room (d.beside w) (d.beside mid) (d.beside to) (drawn_first room event (d.beside w) (d.beside mid) (c.in-Ok.ensures.first told))
          (drawn_none room (d.beside mid) (d.beside to) k.events.taken k.events.coming);
      fresh = subst (λ (o : ℕ). AreFresh o held) (sym k.events.opened) (k.fresh (fresh_more (d.beside w).opened (d.beside mid).opened had later c.requires.fresh));
      ready = λ fine. k.ready (λ f. fine (disk_back r e c.fault_of.result is c.fault_of.ensures f));
      front = λ failed. absurd (not_front e c.fault_of.result c.fault_of.ensures failed);
      keeps = keeps_as d.faults s after w to (IsErrOf r handle.Disk) (IsErrOf {T = Option ℕ} (Err c.fault_of.result) fault.Disk)
          (disk_there r e c.fault_of.result is c.fault_of.ensures) (disk_back r e c.fault_of.result is c.fault_of.ensures)
          (keeps_join d.faults s s after w mid to ⊥ (IsErrOf r handle.Disk) (keeps_still d.faults s w mid ⊥ (λ f. f) c.next.ensures.faults) (λ f. f) k.keeps);
    }
