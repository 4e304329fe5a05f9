-- The events of a session, one further, and how it ends.
use Rattle.std.proofs.Common.{◌≡◌, ◌≢◌, ℕ, ◌+◌, ◌<◌, ◌≤◌, ◌^◌, List, [], ◌∷◌, ◌++◌, All, Some, None, Result, Ok, Err, length, refl, sym, ◌∙◌, ap, subst, arith, append_assoc}
use Rattle.std.proofs.lemmas.List.{append-nil, length-append, length_push}
use Rattle.std.proofs.lemmas.List.Elements.{All-append, All-cons, All-nil}
use Rattle.api_requests.specs.declared.fault.HandleFault.TheVariants as handle
use Rattle.conn_mux.specs.Held.{Held}
use Rattle.disk.specs.Beside.{Beside, FrontEvent, End}
use Rattle.disk.specs.Images.{Images}
use Rattle.session.proofs.AnswerLemmas.{count_turns, last_course, next_course}
use Rattle.session.specs.Amid.{IsAmidEvents}
use Rattle.session.specs.Calls.{Answers}
use Rattle.session.specs.Comings.{NextComesTo, TakesEvent}
use Rattle.session_course.proofs.CourseLemmas.{course_none}
use Rattle.session_course.specs.Courses.{IsPresent}
use Rattle.session_course.specs.Servers.{Server}
use Rattle.session_ends.proofs.EndLemmas.{serves_by}
use Rattle.session_ends.specs.Ends.{EndsBy, Serves, most_events}
use Rattle.session_ends.specs.declared.fault.SessionFault.{SessionFault}
use Rattle.session_ends.specs.declared.fault.SessionFault.TheVariants as fault
use Rattle.session_ends.specs.declared.served.Served.{Served}
use Rattle.session_turns.proofs.CaughtLemmas.{caught_nothing}
use Rattle.session_turns.proofs.TurnLemmas.{leads_more}
use Rattle.session_turns.specs.Caught.{AreCaughtUp}
use Rattle.session_turns.specs.Turns.{Turn, AreFirstTurns, HasNoEnd, Leads, Position, AreFirstOf, beginning, behind}
use Rattle.storage_version.specs.Kept.{AreKept}
use Rattle.stored_state.specs.Both.{AreWithin}

no_end_more : (before : List FrontEvent) (event : FrontEvent) → HasNoEnd before → event ≢ End → HasNoEnd (before ++ event ∷ [])
no_end_more before event none going =
    All-append (λ (x : FrontEvent). x ≢ End) before (event ∷ []) none (All-cons (λ (x : FrontEvent). x ≢ End) event [] going (All-nil (λ (x : FrontEvent). x ≢ End)))

module _ {W : Type 0} (clock : W → ℕ) (may_leave : W → ℕ → Images → Type 0) (beside : W → Beside) where
  pub events_none : (s : Server) (w : W) → IsPresent clock may_leave s w → (beside w).taken ≡ [] → IsAmidEvents clock may_leave beside s s w w 0 0 []
  events_none s w present none = record {
    turns = [];
    at = beginning;
    course = course_none clock may_leave beside s w present;
    leads = subst (λ (l : List FrontEvent). Leads beginning l [] beginning) (sym none) (refl, refl);
    seen = sym (ap length none);
    going = subst HasNoEnd (sym none) (All-nil (λ (x : FrontEvent). x ≢ End));
    many = ap length none;
    caught = caught_nothing;
    count = refl;
  }

  -- a session ends with its turns
  pub serves_of : (s d : Server) (from to : W) (result : Result Served SessionFault) → Answers clock may_leave beside s d from to (EndsBy result (beside to).taken) → (beside from).sends ≡ []
      → AreWithin s.items s.state.revision → AreKept s.back.versions s.machine.view.versions s.items s.state s.items s.revision → Serves clock may_leave beside s d from to result
  serves_of s d from to result k none within own = serves_by clock may_leave beside s d from to result k.turns k.further k.course none within own k.are

  module _ (a b : Server) (first second : W) (i n : ℕ) (mid : Held) (h : IsAmidEvents clock may_leave beside a b first second i n mid) where
    pub ends_spent : i ≡ most_events → Answers clock may_leave beside a b first second (EndsBy (Err fault.Spent) (beside second).taken)
    ends_spent last = record {
      turns = h.turns;
      further = [];
      course = h.course;
      are = (h.going, h.many ∙ last, (h.at, h.leads), refl);
    }

    module _ (d : Server) (third : W) (new : Held) where
      pub events_more : (m count : ℕ) → Answers clock may_leave beside b d second third (NextComesTo (Ok (Some count)) (beside second).taken (beside third).taken mid new)
          → length (beside third).sends < 2 ^ 64 → (n + count < 2 ^ 64 → m ≡ n + count) → IsAmidEvents clock may_leave beside a d first third (i + 1) m new
      events_more m count k few sum =
          let (event, takes, served) = k.are in
          let (many, rest, turns_of) = served in
          let course = next_course clock may_leave beside a b d first second third h.turns k.turns k.turns k.further [] h.course k.course refl rest in
          let fits = count_turns clock may_leave beside a d first third (h.turns ++ k.turns) [] course few in
          let both = length-append h.turns k.turns in
          let before = h.count in
          let counted : m ≡ n + count = sum (omega (arith, fits, both, before, many)) in
          let longer : length (beside third).taken ≡ length (beside second).taken + 1 = ap length takes.taken ∙ length_push (beside second).taken event in
          let at : h.at.seen + 1 ≡ length (beside third).taken = ap (λ k. k + 1) h.seen ∙ sym longer in
          let of = turns_of h.at at h.caught in
          record {
            turns = h.turns ++ k.turns;
            at = behind h.at event k.turns;
            course = course;
            leads = subst (λ (l : List FrontEvent). Leads beginning l (h.turns ++ k.turns) (behind h.at event k.turns)) (sym takes.taken)
                (leads_more beginning h.at (beside second).taken event h.turns k.turns h.leads of.0);
            seen = at;
            going = subst HasNoEnd (sym takes.taken) (no_end_more (beside second).taken event h.going takes.going);
            many = longer ∙ ap (λ k. k + 1) h.many;
            caught = of.1;
            count = omega (arith, counted, both, before, many);
          }

      pub ends_at_end : (served : Served) → served.requests ≡ n → i < most_events → Answers clock may_leave beside b d second third (NextComesTo (Ok None) (beside second).taken (beside third).taken mid new)
          → Answers clock may_leave beside a d first third (EndsBy (Ok served) (beside third).taken)
      ends_at_end served requests within k =
          let (taken, none, rest) = k.are in
          let leads : Leads beginning ((beside second).taken ++ End ∷ []) (h.turns ++ []) (behind h.at End []) =
          leads_more beginning h.at (beside second).taken End h.turns [] h.leads refl in
          let all : Leads beginning (beside third).taken h.turns (behind h.at End []) =
          subst (λ (p : List FrontEvent × List Turn). Leads beginning p.0 p.1 (behind h.at End [])) (λ j. (sym taken j, append-nil h.turns j)) leads in
          let many = h.many in
          let few : length (beside second).taken < most_events = omega (arith, many, within) in
          record {
            turns = h.turns;
            further = [];
            course = last_course clock may_leave beside a b d first second third h.turns k.turns k.further [] h.course k.course none rest;
            are = ((beside second).taken, taken, h.going, few, (behind h.at End [], all), refl, requests ∙ h.count);
          }

      pub ends_by_front : i < most_events → Answers clock may_leave beside b d second third (NextComesTo (Err fault.Front) (beside second).taken (beside third).taken mid new)
          → Answers clock may_leave beside a d first third (EndsBy (Err fault.Front) (beside third).taken)
      ends_by_front within k =
          let (taken, none, rest) = k.are in
          let many = h.many in
          let few : length (beside third).taken < most_events = omega (arith, many, within, ap length taken) in
          record {
            turns = h.turns;
            further = [];
            course = last_course clock may_leave beside a b d first second third h.turns k.turns k.further [] h.course k.course none rest;
            are = (
              subst HasNoEnd (sym taken) h.going,
              few,
              (h.at, subst (λ (l : List FrontEvent). Leads beginning l h.turns h.at) (sym taken) h.leads),
              refl,
            );
          }

      -- the turns of the last event were begun
      first_turns : (event : FrontEvent) (begun : List Turn) → TakesEvent (beside second).taken (beside third).taken event
          → ((p : Position) → p.seen + 1 ≡ length (beside third).taken → AreCaughtUp p.streams mid → AreFirstOf p event begun) → AreFirstTurns (beside third).taken (h.turns ++ begun)
      first_turns event begun takes turns_of =
          let longer : length (beside third).taken ≡ length (beside second).taken + 1 = ap length takes.taken ∙ length_push (beside second).taken event in
          record {
            earlier = (beside second).taken;
            last = event;
            parts = takes.taken;
            whole = h.turns;
            first = begun;
            at = h.at;
            leads = h.leads;
            begun = turns_of h.at (ap (λ k. k + 1) h.seen ∙ sym longer) h.caught;
            turns_are = refl;
          }

      at_most : (event : FrontEvent) → i < most_events → TakesEvent (beside second).taken (beside third).taken event → length (beside third).taken ≤ most_events
      at_most event within takes =
          let many = h.many in
          omega (arith, many, within, ap length takes.taken, length_push (beside second).taken event)

      pub ends_by_memory : i < most_events → Answers clock may_leave beside b d second third (NextComesTo (Err fault.Memory) (beside second).taken (beside third).taken mid new)
          → Answers clock may_leave beside a d first third (EndsBy (Err fault.Memory) (beside third).taken)
      ends_by_memory within k =
          let (event, takes, served) = k.are in
          let (none, turns_of) = served in
          let begun : k.turns ++ k.further ≡ k.turns = ap (λ l. k.turns ++ l) none ∙ append-nil k.turns in
          record {
            turns = h.turns ++ k.turns;
            further = [];
            course = next_course clock may_leave beside a b d first second third h.turns k.turns k.turns k.further [] h.course k.course refl none;
            are = (
              subst HasNoEnd (sym takes.taken) (no_end_more (beside second).taken event h.going takes.going),
              at_most event within takes,
              subst (λ (l : List Turn). AreFirstTurns (beside third).taken (h.turns ++ l)) begun (first_turns event (k.turns ++ k.further) takes turns_of),
              refl,
            );
          }

      pub ends_by_disk : i < most_events → Answers clock may_leave beside b d second third (NextComesTo (Err fault.Disk) (beside second).taken (beside third).taken mid new)
          → Answers clock may_leave beside a d first third (EndsBy (Err fault.Disk) (beside third).taken)
      ends_by_disk within k =
          let (event, takes, served) = k.are in
          let (more, turns_of) = served in
          let (t, is) = more in
          let begun : h.turns ++ (k.turns ++ k.further) ≡ (h.turns ++ k.turns) ++ t ∷ [] = ap (λ l. h.turns ++ (k.turns ++ l)) is ∙ sym (append_assoc h.turns k.turns (t ∷ [])) in
          record {
            turns = h.turns ++ k.turns;
            further = t ∷ [];
            course = next_course clock may_leave beside a b d first second third h.turns k.turns k.turns k.further (t ∷ []) h.course k.course refl is;
            are = (
              t,
              refl,
              subst HasNoEnd (sym takes.taken) (no_end_more (beside second).taken event h.going takes.going),
              at_most event within takes,
              subst (λ (l : List Turn). AreFirstTurns (beside third).taken l) begun (first_turns event (k.turns ++ k.further) takes turns_of),
            );
          }

      -- the service was told no other fault
      pub ends_by : (e : SessionFault) → i < most_events → Answers clock may_leave beside b d second third (NextComesTo (Err e) (beside second).taken (beside third).taken mid new)
          → Answers clock may_leave beside a d first third (EndsBy (Err e) (beside third).taken)
      ends_by fault.Front within k = ends_by_front within k
      ends_by fault.Memory within k = ends_by_memory within k
      ends_by fault.Disk within k = ends_by_disk within k
      ends_by fault.Spent within k = absurd k.are
