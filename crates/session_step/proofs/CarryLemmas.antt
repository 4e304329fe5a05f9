-- What carrying out a request leaves.
use Rattle.std.proofs.Common.{◌≡◌, ◌⊎◌, inl, inr, ⊎_elim, ℕ, refl, sym, ap, subst, ◌∙◌, ◌+◌}
use Rattle.std.specs.Prelude.{Option, Some, None, option_map}
use Rattle.api_requests.proofs.ChangeLemmas.{can_apply}
use Rattle.api_requests.proofs.RoomLemmas.{goes_on_before}
use Rattle.api_requests.proofs.StopLemmas.{step_of}
use Rattle.api_requests.specs.Finishing.{GoesOn, LeavesState}
use Rattle.api_requests.specs.Prepared.{change_of, decided_of}
use Rattle.api_requests.specs.Serving.{Serving, IsAsBefore, IsServing}
use Rattle.api_requests.specs.declared.prepared.Prepared.{Prepared}
use Rattle.api_requests.specs.declared.prepared.Write.{Write}
use Rattle.disk.proofs.ImageLemmas.{goes_on, weaker}
use Rattle.disk.specs.Images.{Pending, Images}
use Rattle.disk.specs.Moments.{Unchanged}
use Rattle.disk.specs.declared.file.File.{File}
use Rattle.http_front.specs.Items.{taken_request}
use Rattle.http_front.specs.Replies.{reply_text}
use Rattle.http_front.specs.declared.reply.Reply.{Reply}
use Rattle.http_front.specs.declared.request.Request.{Request}
use Rattle.object_journal.specs.Standing.{chosen, Writes}
use Rattle.object_state.proofs.StateLemmas.{one_state}
use Rattle.object_state.specs.Objects.{AreInKeyOrder}
use Rattle.object_state.specs.State.{State, IsNext}
use Rattle.object_state.specs.declared.object.Change.{Change}
use Rattle.plain_machine.specs.Deciding.{IsDecided}
use Rattle.session_course.proofs.CourseLemmas.{idle_moments}
use Rattle.session_course.specs.Servers.{IsRestored}
use Rattle.session_step.specs.Carried.{IsCarriedOut, IsSafe, IsTried, LeavesOneOf}
use Rattle.session_step.specs.Taken.{ChangesState, server_of}
use Rattle.session_step.specs.declared.outgoing.Outgoing.{Outgoing}

-- ---- the next state

one_next : (change : Option Change) (s a b : State) → IsNext s change a → IsNext s change b → a ≡ b
one_next None s a b h k = h ∙ sym k
one_next (Some change) s a b h k = one_state s change a b h k

some_next : (change : Option Change) (s : State) → AreInKeyOrder s.objects → (next : State) × IsNext s change next
some_next None s order = (s, refl)
some_next (Some change) s order = can_apply s change order

some_change : (write : Option Write) (s : State) → (write ≡ None → ⊥) → AreInKeyOrder s.objects
    → (next : State) × IsNext s (option_map (λ (w : Write). w.change) write) next × (next.revision ≡ s.revision + 1)
some_change None s some order = absurd (some refl)
some_change (Some w) s some order = let made = can_apply s w.change order in (made.0, made.1, made.1.revision)

-- a request that has something to write
pub changes_state : (s : Serving) (q : Request) (p : Prepared) → IsServing s → IsDecided s.machine s.state q (decided_of p) → (p.write ≡ None → ⊥) → ChangesState (server_of s) (taken_request q)
changes_state s q p serves decided some =
    let next = some_change p.write s.state some serves.stand.later.order in
    record {
      reply = p.reply;
      next = next.0;
      answered = step_of s.machine s.state q (decided_of p) next.0 decided next.1;
      rises = next.2;
    }

-- the room that the store took doesn't matter
next_before : (old mid : Serving) (change : Option Change) (next : State) → IsAsBefore old mid → IsNext mid.state change next → IsNext old.state change next
next_before old mid change next is h = subst (λ (s : Serving). IsNext s.state change next) is h

-- ---- what a stop leaves

leaves_one : (pending : File → Pending) (old mid : Serving) (change : Option Change) (next : State) (images : Images) → IsAsBefore old mid → IsNext old.state change next
    → LeavesState pending mid change images → IsRestored (server_of old) (images chosen) old.state ⊎ IsRestored (server_of old) (images chosen) next
leaves_one pending old mid change next images is after l =
    let h = subst (λ (s : Serving). LeavesState pending s change images) is l in
    ⊎_elim
    (λ before. inl before)
    (λ changed.
    let same : changed.0 ≡ next = one_next change old.state changed.0 next changed.1 after in
    inr (subst (λ (s : State). IsRestored (server_of old) (images chosen) s) same changed.2))
    h.file

module _ {D : Type 0} (clock : D → ℕ) (may_leave : D → ℕ → Images → Type 0) (held : D → Images) (pending : D → File → Pending) where
  -- room is made, and then the change is stored
  pub safe_change : (old mid : Serving) (change : Option Change) (next : State) (good : Type 0) (first second third : D) → IsAsBefore old mid → IsNext old.state change next
      → clock second ≡ clock first → Unchanged clock may_leave held pending first second
      → Writes clock may_leave held pending second third good (LeavesState (pending second) mid change)
      → IsSafe clock may_leave (server_of old) next first third
  safe_change old mid change next good first second third is after same idle writes =
      goes_on clock may_leave first second third (LeavesOneOf (server_of old) next)
      (idle_moments clock may_leave first second (LeavesOneOf (server_of old) next) same idle.kept)
      (weaker clock may_leave second third (λ _. LeavesState (pending second) mid change) (LeavesOneOf (server_of old) next)
      (λ t images above within l. leaves_one (pending second) old mid change next images is after l) writes.time)

  -- where the disk failed
  pub tried_change : (old mid : Serving) (q : Request) (p : Prepared) (good : Type 0) (first second third : D) → IsServing old → IsAsBefore old mid
      → IsDecided old.machine old.state q (decided_of p) → clock second ≡ clock first → Unchanged clock may_leave held pending first second
      → Writes clock may_leave held pending second third good (LeavesState (pending second) mid (change_of p))
      → IsTried clock may_leave (server_of old) (taken_request q) first third
  tried_change old mid q p good first second third serves is decided same idle writes =
      let next = some_next (change_of p) old.state serves.stand.later.order in
      record {
        reply = p.reply;
        next = next.0;
        answered = step_of old.machine old.state q (decided_of p) next.0 decided next.1;
        safe = safe_change old mid (change_of p) next.0 good first second third is next.1 same idle writes;
      }

  -- where it didn't
  pub safe_done : (old mid new : Serving) (p : Prepared) (good : Type 0) (first second third : D) → IsAsBefore old mid → IsNext mid.state (change_of p) new.state
      → clock second ≡ clock first → Unchanged clock may_leave held pending first second
      → Writes clock may_leave held pending second third good (LeavesState (pending second) mid (change_of p))
      → IsSafe clock may_leave (server_of old) new.state first third
  safe_done old mid new p good first second third is next same idle writes =
      safe_change old mid (change_of p) new.state good first second third is (next_before old mid (change_of p) new.state is next) same idle writes

-- ---- what is to be sent

pub carried_out : (old mid new : Serving) (q : Request) (p : Prepared) (o : Outgoing) (reply : Reply) → reply ≡ p.reply → IsAsBefore old mid → IsDecided old.machine old.state q (decided_of p)
    → IsNext mid.state (change_of p) new.state → GoesOn mid new → o.bytes ≡ reply_text reply → o.last ≡ reply.last → IsCarriedOut old new (taken_request q) o
carried_out old mid new q p o reply same is decided next on bytes last =
    let goes = goes_on_before old mid new is on in
    record {
      reply = p.reply;
      answered = step_of old.machine old.state q (decided_of p) new.state decided (next_before old mid (change_of p) new.state is next);
      continues = record { machine = goes.machine; back = goes.back; later = goes.later; kept = goes.kept };
      bytes = bytes ∙ ap reply_text same;
      last = last ∙ ap (λ (r : Reply). r.last) same;
      final = ap (λ (r : Reply). r.last) decided.told;
    }
