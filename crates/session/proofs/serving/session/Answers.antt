use Rattle.std.proofs.Common.{◌≡◌, ℕ, Option, Some, None, Result, Ok, Err, IsErrOf, length, refl, sym, ◌∙◌, ap, subst, arith}
use Rattle.conn_mux.specs.Held.{Held}
use Rattle.session.proofs.LoopLemmas.{ends_at_end, ends_by, ends_spent, events_more, events_none, serves_of}
use Rattle.session.proofs.ServingLemmas.{fault_back, fault_there, keeps_as, keeps_join, keeps_on, keeps_still, not_failed, not_failed_as, present_of, ready_start, within_of}
use Rattle.session.proofs.serving.session.Goals as goal
use Rattle.session.specs.Amid.{IsAmidEvents}
use Rattle.session.specs.Calls.{Answers}
use Rattle.session.specs.Comings.{NextComesTo}
use Rattle.session_course.proofs.ServerLemmas.{kept_at_end}
use Rattle.session_ends.proofs.DrawnLemmas.{drawn_join, drawn_none}
use Rattle.session_ends.proofs.PieceLemmas.{fresh_nothing}
use Rattle.session_ends.specs.Drawn.{HasDrawn}
use Rattle.session_ends.specs.Pieces.{AreFresh}
use Rattle.session_ends.specs.declared.fault.SessionFault.{SessionFault}
use Rattle.session_ends.specs.declared.fault.SessionFault.TheVariants as fault
use Rattle.session_ends.specs.declared.served.Served.{Served}
use Rattle.session_step.specs.Taken.{server_of}

pub loop-taken-init : goal.loop-taken-init
loop-taken-init g c =
    let d = g.W.Disk in
    let w = c.args.world.now in
    let s = c.args.service.now in
    record {
      ready = ready_start d.tells d.held d.pending d.beside s w c.requires.start c.requires.stands;
      keeps = keeps_still d.faults s w w ⊥ (λ f. f) refl;
      drawn = λ told. drawn_none 4096 (d.beside w) (d.beside w) refl refl;
      fresh = subst (λ (m : Held). AreFresh (d.beside w).opened m) (sym c.new-mux.ensures) (fresh_nothing (d.beside w).opened);
      told = λ told.
          subst (λ (m : Held). IsAmidEvents d.clock d.may_leave d.beside (server_of s) (server_of s) w w 0 0 m) (sym c.new-mux.ensures)
          (events_none d.clock d.may_leave d.beside (server_of s) w
          (present_of d.tells d.held d.pending d.clock d.may_leave s w c.standing_service_restores.ensures c.requires.stands told (g.met.W.Disk.images_now w)) c.requires.start.taken);
    }

pub loop-taken-preserved : goal.loop-taken-preserved
loop-taken-preserved g c =
    let d = g.W.Disk in
    let w = c.args.world.now in
    let s = c.args.service.now in
    let l = c.loop-taken in
    let mid = l.service in
    let h = l.invariant in
    let to = c.serve_next.new.world in
    let new = c.serve_next.new.service in
    let r = c.serve_next.result in
    let k = c.serve_next.ensures in
    let size : length l.buffer ≡ 4096 = omega arith in
    let is : r ≡ Ok (Some c.in-Ok-Some.answered) = c.in-Ok-Some.is ∙ ap Ok c.in-Ok-Some.field-0-is in
    let unfailed = not_failed_as r (Some c.in-Ok-Some.answered) fault.Disk is in
    record {
      ready = k.ready unfailed;
      keeps = keeps_on d.faults s mid new w l.world to (IsErrOf r fault.Disk) ⊥ h.keeps k.keeps unfailed (λ f. f);
      fresh = k.fresh;
      drawn = λ told.
          drawn_join 4096 (d.beside w) (d.beside l.world) (d.beside to) (h.drawn told) (subst (λ (n : ℕ). HasDrawn n (d.beside l.world) (d.beside to)) size (k.drawn told));
      told = λ told.
          events_more d.clock d.may_leave d.beside (server_of s) (server_of mid) w l.world l._taken l.requests l.mux (h.told told) (server_of new) to c.serve_next.new.mux c.saturating_add-requests.result c.in-Ok-Some.answered
          (subst (λ (q : Result (Option ℕ) SessionFault). Answers d.clock d.may_leave d.beside (server_of mid) (server_of new) l.world to (NextComesTo q (d.beside l.world).taken (d.beside to).taken l.mux c.serve_next.new.mux)) is (k.told told))
          ((k.ready unfailed).few told) (λ fits. omega (arith, c.saturating_add-requests.ensures));
    }

pub returns-in-Ok-None-clause-serves : goal.returns-in-Ok-None-clause-serves
returns-in-Ok-None-clause-serves g c told =
    let d = g.W.Disk in
    let w = c.args.world.now in
    let s = c.args.service.now in
    let l = c.loop-taken in
    let mid = l.service in
    let h = l.invariant in
    let to = c.serve_next.new.world in
    let new = c.serve_next.new.service in
    let r = c.serve_next.result in
    let k = c.serve_next.ensures in
    let is : r ≡ Ok None = c.in-Ok-None.is ∙ ap Ok c.in-Ok-None.field-0-is in
    serves_of d.clock d.may_leave d.beside (server_of s) (server_of new) w to (Ok (record { requests = l.requests; revision = c.revision-revision.result }))
    (ends_at_end d.clock d.may_leave d.beside (server_of s) (server_of mid) w l.world l._taken l.requests l.mux (h.told told) (server_of new) to c.serve_next.new.mux (record { requests = l.requests; revision = c.revision-revision.result }) refl (omega arith)
    (subst (λ (q : Result (Option ℕ) SessionFault). Answers d.clock d.may_leave d.beside (server_of mid) (server_of new) l.world to (NextComesTo q (d.beside l.world).taken (d.beside to).taken l.mux c.serve_next.new.mux)) is (k.told told)))
    c.requires.start.sends (within_of d.tells (d.held w) (d.pending w) s c.service_is_kept.ensures.serves c.service_is_kept.ensures.within c.requires.stands) c.service_is_kept.ensures.kept

pub returns-in-Ok-None-clause-drawn : goal.returns-in-Ok-None-clause-drawn
returns-in-Ok-None-clause-drawn g c told =
    let d = g.W.Disk in
    let l = c.loop-taken in
    let to = c.serve_next.new.world in
    let size : length l.buffer ≡ 4096 = omega arith in
    drawn_join 4096 (d.beside c.args.world.now) (d.beside l.world) (d.beside to) (l.invariant.drawn told)
    (subst (λ (n : ℕ). HasDrawn n (d.beside l.world) (d.beside to)) size (c.serve_next.ensures.drawn told))

pub returns-in-Ok-None-clause-machine : goal.returns-in-Ok-None-clause-machine
returns-in-Ok-None-clause-machine g c =
    let d = g.W.Disk in
    let w = c.args.world.now in
    let s = c.args.service.now in
    let l = c.loop-taken in
    let mid = l.service in
    let h = l.invariant in
    let to = c.serve_next.new.world in
    let new = c.serve_next.new.service in
    let r = c.serve_next.result in
    let k = c.serve_next.ensures in
    let both = keeps_join d.faults s mid new w l.world to ⊥ (IsErrOf r fault.Disk) h.keeps (λ f. f) k.keeps in
    both.continues.machine

pub returns-in-Ok-None-clause-back : goal.returns-in-Ok-None-clause-back
returns-in-Ok-None-clause-back g c =
    let d = g.W.Disk in
    let w = c.args.world.now in
    let s = c.args.service.now in
    let l = c.loop-taken in
    let mid = l.service in
    let h = l.invariant in
    let to = c.serve_next.new.world in
    let new = c.serve_next.new.service in
    let r = c.serve_next.result in
    let k = c.serve_next.ensures in
    let both = keeps_join d.faults s mid new w l.world to ⊥ (IsErrOf r fault.Disk) h.keeps (λ f. f) k.keeps in
    both.continues.back

pub returns-in-Ok-None-clause-kept : goal.returns-in-Ok-None-clause-kept
returns-in-Ok-None-clause-kept g c =
    let d = g.W.Disk in
    let w = c.args.world.now in
    let s = c.args.service.now in
    let l = c.loop-taken in
    let mid = l.service in
    let h = l.invariant in
    let to = c.serve_next.new.world in
    let new = c.serve_next.new.service in
    let r = c.serve_next.result in
    let k = c.serve_next.ensures in
    let both = keeps_join d.faults s mid new w l.world to ⊥ (IsErrOf r fault.Disk) h.keeps (λ f. f) k.keeps in
    kept_at_end (server_of s) (server_of new) (within_of d.tells (d.held w) (d.pending w) s c.service_is_kept.ensures.serves c.service_is_kept.ensures.within c.requires.stands) c.service_is_kept.ensures.kept both.continues

pub returns-in-Ok-None-clause-faults : goal.returns-in-Ok-None-clause-faults
returns-in-Ok-None-clause-faults g c =
    let d = g.W.Disk in
    let w = c.args.world.now in
    let s = c.args.service.now in
    let l = c.loop-taken in
    let mid = l.service in
    let h = l.invariant in
    let to = c.serve_next.new.world in
    let new = c.serve_next.new.service in
    let r = c.serve_next.result in
    let k = c.serve_next.ensures in
    let is : r ≡ Ok None = c.in-Ok-None.is ∙ ap Ok c.in-Ok-None.field-0-is in
    (keeps_on d.faults s mid new w l.world to (IsErrOf r fault.Disk) (IsErrOf {T = Served} (Ok (record { requests = l.requests; revision = c.revision-revision.result })) fault.Disk) h.keeps k.keeps
    (not_failed_as r None fault.Disk is) (not_failed {T = Served} (record { requests = l.requests; revision = c.revision-revision.result }) fault.Disk)).counted

pub returns-in-Err-clause-serves : goal.returns-in-Err-clause-serves
returns-in-Err-clause-serves g c told =
    let d = g.W.Disk in
    let w = c.args.world.now in
    let s = c.args.service.now in
    let l = c.loop-taken in
    let mid = l.service in
    let h = l.invariant in
    let to = c.serve_next.new.world in
    let new = c.serve_next.new.service in
    let r = c.serve_next.result in
    let k = c.serve_next.ensures in
    serves_of d.clock d.may_leave d.beside (server_of s) (server_of new) w to (Err c.in-Err.fault)
    (ends_by d.clock d.may_leave d.beside (server_of s) (server_of mid) w l.world l._taken l.requests l.mux (h.told told) (server_of new) to c.serve_next.new.mux c.in-Err.fault (omega arith)
    (subst (λ (q : Result (Option ℕ) SessionFault). Answers d.clock d.may_leave d.beside (server_of mid) (server_of new) l.world to (NextComesTo q (d.beside l.world).taken (d.beside to).taken l.mux c.serve_next.new.mux)) c.in-Err.is (k.told told)))
    c.requires.start.sends (within_of d.tells (d.held w) (d.pending w) s c.service_is_kept.ensures.serves c.service_is_kept.ensures.within c.requires.stands) c.service_is_kept.ensures.kept

pub returns-in-Err-clause-drawn : goal.returns-in-Err-clause-drawn
returns-in-Err-clause-drawn g c told =
    let d = g.W.Disk in
    let l = c.loop-taken in
    let to = c.serve_next.new.world in
    let size : length l.buffer ≡ 4096 = omega arith in
    drawn_join 4096 (d.beside c.args.world.now) (d.beside l.world) (d.beside to) (l.invariant.drawn told)
    (subst (λ (n : ℕ). HasDrawn n (d.beside l.world) (d.beside to)) size (c.serve_next.ensures.drawn told))

pub returns-in-Err-clause-machine : goal.returns-in-Err-clause-machine
returns-in-Err-clause-machine g c =
    let d = g.W.Disk in
    let w = c.args.world.now in
    let s = c.args.service.now in
    let l = c.loop-taken in
    let mid = l.service in
    let h = l.invariant in
    let to = c.serve_next.new.world in
    let new = c.serve_next.new.service in
    let r = c.serve_next.result in
    let k = c.serve_next.ensures in
    let both = keeps_join d.faults s mid new w l.world to ⊥ (IsErrOf r fault.Disk) h.keeps (λ f. f) k.keeps in
    both.continues.machine

pub returns-in-Err-clause-back : goal.returns-in-Err-clause-back
returns-in-Err-clause-back g c =
    let d = g.W.Disk in
    let w = c.args.world.now in
    let s = c.args.service.now in
    let l = c.loop-taken in
    let mid = l.service in
    let h = l.invariant in
    let to = c.serve_next.new.world in
    let new = c.serve_next.new.service in
    let r = c.serve_next.result in
    let k = c.serve_next.ensures in
    let both = keeps_join d.faults s mid new w l.world to ⊥ (IsErrOf r fault.Disk) h.keeps (λ f. f) k.keeps in
    both.continues.back

pub returns-in-Err-clause-kept : goal.returns-in-Err-clause-kept
returns-in-Err-clause-kept g c =
    let d = g.W.Disk in
    let w = c.args.world.now in
    let s = c.args.service.now in
    let l = c.loop-taken in
    let mid = l.service in
    let h = l.invariant in
    let to = c.serve_next.new.world in
    let new = c.serve_next.new.service in
    let r = c.serve_next.result in
    let k = c.serve_next.ensures in
    let both = keeps_join d.faults s mid new w l.world to ⊥ (IsErrOf r fault.Disk) h.keeps (λ f. f) k.keeps in
    kept_at_end (server_of s) (server_of new) (within_of d.tells (d.held w) (d.pending w) s c.service_is_kept.ensures.serves c.service_is_kept.ensures.within c.requires.stands) c.service_is_kept.ensures.kept both.continues

pub returns-in-Err-clause-faults : goal.returns-in-Err-clause-faults
returns-in-Err-clause-faults g c =
    let d = g.W.Disk in
    let w = c.args.world.now in
    let s = c.args.service.now in
    let l = c.loop-taken in
    let mid = l.service in
    let h = l.invariant in
    let to = c.serve_next.new.world in
    let new = c.serve_next.new.service in
    let r = c.serve_next.result in
    let k = c.serve_next.ensures in
    (keeps_as d.faults s new w to (IsErrOf r fault.Disk) (IsErrOf {T = Served} (Err c.in-Err.fault) fault.Disk) (fault_there {S = Served} r c.in-Err.fault fault.Disk c.in-Err.is)
    (fault_back {S = Served} r c.in-Err.fault fault.Disk c.in-Err.is) (keeps_join d.faults s mid new w l.world to ⊥ (IsErrOf r fault.Disk) h.keeps (λ f. f) k.keeps)).counted

pub returns-clause-serves : goal.returns-clause-serves
returns-clause-serves g c told =
    let d = g.W.Disk in
    let w = c.args.world.now in
    let s = c.args.service.now in
    let l = c.loop-taken in
    let mid = l.service in
    let h = l.invariant in
    serves_of d.clock d.may_leave d.beside (server_of s) (server_of mid) w l.world (Err fault.Spent)
    (ends_spent d.clock d.may_leave d.beside (server_of s) (server_of mid) w l.world l._taken l.requests l.mux (h.told told) (omega arith))
    c.requires.start.sends (within_of d.tells (d.held w) (d.pending w) s c.service_is_kept.ensures.serves c.service_is_kept.ensures.within c.requires.stands) c.service_is_kept.ensures.kept

pub returns-clause-drawn : goal.returns-clause-drawn
returns-clause-drawn g c told = c.loop-taken.invariant.drawn told

pub returns-clause-machine : goal.returns-clause-machine
returns-clause-machine g c =
    let d = g.W.Disk in
    let w = c.args.world.now in
    let s = c.args.service.now in
    let l = c.loop-taken in
    let mid = l.service in
    let h = l.invariant in
    let both = h.keeps in
    both.continues.machine

pub returns-clause-back : goal.returns-clause-back
returns-clause-back g c =
    let d = g.W.Disk in
    let w = c.args.world.now in
    let s = c.args.service.now in
    let l = c.loop-taken in
    let mid = l.service in
    let h = l.invariant in
    let both = h.keeps in
    both.continues.back

pub returns-clause-kept : goal.returns-clause-kept
returns-clause-kept g c =
    let d = g.W.Disk in
    let w = c.args.world.now in
    let s = c.args.service.now in
    let l = c.loop-taken in
    let mid = l.service in
    let h = l.invariant in
    let both = h.keeps in
    kept_at_end (server_of s) (server_of mid) (within_of d.tells (d.held w) (d.pending w) s c.service_is_kept.ensures.serves c.service_is_kept.ensures.within c.requires.stands) c.service_is_kept.ensures.kept both.continues

pub returns-clause-stands : goal.returns-clause-stands
returns-clause-stands g c fine = c.loop-taken.invariant.ready.stands

pub returns-clause-faults : goal.returns-clause-faults
returns-clause-faults g c =
    let d = g.W.Disk in
    let w = c.args.world.now in
    let s = c.args.service.now in
    let l = c.loop-taken in
    let mid = l.service in
    let h = l.invariant in
    let none = λ (f : IsErrOf {T = Served} (Err fault.Spent) fault.Disk). absurd (let same : Err fault.Spent ≡ Err fault.Disk = f in cc) in
    (keeps_as d.faults s mid w l.world ⊥ (IsErrOf {T = Served} (Err fault.Spent) fault.Disk) none (λ f. absurd f) h.keeps).counted

pub serve_next-requires-clause-going : goal.serve_next-requires-clause-going
serve_next-requires-clause-going g c told = (c.loop-taken.invariant.told told).going
