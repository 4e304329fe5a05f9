-- Courses: of a call that does nothing, of one answer, of one that was only begun, and of two one after the other.
use Rattle.std.proofs.Common.{◌≡◌, ◌⊎◌, ◌↔◌, inl, inr, ⊎_elim, ℕ, ◌+◌, ◌<◌, ◌≤◌, List, [], ◌∷◌, ◌++◌, length, refl, sym, ◌∙◌, ap, subst, arith}
use Rattle.std.proofs.lemmas.Bool.{cases_lt}
use Rattle.std.proofs.lemmas.List.{append-nil, append_assoc}
use Rattle.std.proofs.lemmas.List.Elements.{All-append, All-cons, All-nil, All-weaker}
use Rattle.disk.specs.Beside.{Beside, Sent}
use Rattle.disk.specs.Counted.{counted}
use Rattle.disk.specs.Images.{Images}
use Rattle.disk.specs.Moments.{Moments}
use Rattle.object_journal.specs.Standing.{chosen}
use Rattle.object_state.specs.State.{State}
use Rattle.served_steps.specs.Steps.{Exchange, IsAnswered, Steps}
use Rattle.storage_version.specs.Kept.{AreKept}
use Rattle.stored_state.specs.Both.{AreWithin}
use Rattle.session_turns.specs.Turns.{Turn}
use Rattle.session_course.proofs.SendLemmas.{answered_all, answered_join, answered_none, exchanges_join, exchanges_length, sent_join, sent_length}
use Rattle.session_course.proofs.ServerLemmas.{after_none, after_one, continues_join, continues_self, next_join, next_more, restored_found, restored_join, steps_join}
use Rattle.session_course.specs.Courses.{Course, IsPresent, LeavesAnswered, LeavesFound, Throughout}
use Rattle.session_course.specs.Laws.{CoursesJoin}
use Rattle.session_course.specs.Sends.{answered, exchange_of, exchanges, reply_of, reply_sent}
use Rattle.session_course.specs.Servers.{Continues, IsAfterOrNext, IsRestored, Server}

module _ {W : Type 0} (clock : W → ℕ) (may_leave : W → ℕ → Images → Type 0) where
  -- a moment that is the present one restores the present state
  at_present : (s : Server) (w : W) (t : ℕ) (images : Images) → IsPresent clock may_leave s w → clock w ≤ t → t ≤ clock w → may_leave w t images → IsRestored s (images chosen) s.state
  at_present s w t images present from now left =
      let same : t ≡ clock w = omega (arith, from, now) in
      present images (subst (λ (n : ℕ). may_leave w n images) same left)

  -- no moment was added
  pub idle_moments : (old new : W) (P : ℕ → Images → Type 0) → clock new ≡ clock old → ((t : ℕ) (images : Images) → t ≤ clock old → may_leave new t images ↔ may_leave old t images)
      → Moments clock may_leave old new P
  idle_moments old new P same kept = record {
    later = omega (arith, same);
    kept = kept;
    added = λ t images before now left. let none : ⊥ = omega (arith, same, before, now) in absurd none;
  }

  -- at the first moment the state is the old one; at those that were added it is that or the next
  at_each : (old : Server) (from to : W) (next : State) → IsPresent clock may_leave old from
      → Moments clock may_leave from to (λ _ images. IsRestored old (images chosen) old.state ⊎ IsRestored old (images chosen) next)
      → (t : ℕ) (images : Images) → clock from ≤ t → t ≤ clock to → may_leave to t images
      → IsRestored old (images chosen) old.state ⊎ IsRestored old (images chosen) next
  at_each old from to next present moments t images begins now left = ⊎_elim
      (λ (amid : clock from < t). moments.added t images amid now left)
      (λ (first : t ≤ clock from). inl (at_present old from t images present begins first ((moments.kept t images first).0 left)))
      (cases_lt (clock from) t)

  module _ (beside : W → Beside) where
    pub course_idle : (s : Server) (from to : W) → IsPresent clock may_leave s from → clock to ≡ clock from → (beside to).sends ≡ (beside from).sends
        → ((t : ℕ) (images : Images) → t ≤ clock from → may_leave to t images ↔ may_leave from t images) → Course clock may_leave beside s s from to [] []
    course_idle s from to present same sends kept = record {
      sends = [];
      added = sends ∙ sym (append-nil (beside from).sends);
      sent = refl;
      since = All-nil (λ (x : Sent). clock from ≤ x.at);
      until = All-nil (λ (x : Sent). x.at ≤ clock to);
      steps = refl;
      begun = (s.state, refl);
      continues = continues_self s;
      moments = record {
        later = omega (arith, same);
        kept = kept;
        holds = λ t images begins now left.
            let first : t ≤ clock from = omega (arith, same, now) in
            (s.state, inl (after_none s []), at_present s from t images present begins first ((kept t images first).0 left));
      };
    }

    pub course_none : (s : Server) (w : W) → IsPresent clock may_leave s w → Course clock may_leave beside s s w w [] []
    course_none s w present = course_idle s w w present refl refl (λ t images before. (λ (h : may_leave w t images). h, λ (h : may_leave w t images). h))

    pub course_tried : (old : Server) (from to : W) (t : Turn) (next : State) → IsPresent clock may_leave old from
        → Moments clock may_leave from to (λ _ images. IsRestored old (images chosen) old.state ⊎ IsRestored old (images chosen) next)
        → IsAnswered old.machine old.state t.item t.reply next → (beside to).sends ≡ (beside from).sends → Course clock may_leave beside old old from to [] (t ∷ [])
    course_tried old from to t next present moments by sends = record {
      sends = [];
      added = sends ∙ sym (append-nil (beside from).sends);
      sent = refl;
      since = All-nil (λ (x : Sent). clock from ≤ x.at);
      until = All-nil (λ (x : Sent). x.at ≤ clock to);
      steps = refl;
      begun = (next, (next, by, refl));
      continues = continues_self old;
      moments = record {
        later = moments.later;
        kept = moments.kept;
        holds = λ moment images begins now left. ⊎_elim
            (λ (h : IsRestored old (images chosen) old.state). (old.state, inl (after_none old (exchange_of t ∷ [])), h))
            (λ (h : IsRestored old (images chosen) next). (next, inr (after_one old (exchange_of t) next by), h))
            (at_each old from to next present moments moment images begins now left);
      };
    }

    -- one turn: the state changes in calls of the disk, and then its reply is sent
    pub course_answer : (old new : Server) (first second third : W) (t : Turn) (s : Sent) → IsPresent clock may_leave old first
        → Moments clock may_leave first second (λ _ images. IsRestored old (images chosen) old.state ⊎ IsRestored old (images chosen) new.state)
        → IsAnswered old.machine old.state t.item t.reply new.state → Continues old new → (beside second).sends ≡ (beside first).sends
        → clock third ≡ counted (clock second) → clock second ≤ clock third
        → ((moment : ℕ) (images : Images) → moment ≤ clock second → may_leave third moment images ↔ may_leave second moment images)
        → (beside third).sends ≡ (beside second).sends ++ s ∷ [] → s.at ≡ clock third → reply_sent s ≡ reply_of t → IsPresent clock may_leave new third
        → Course clock may_leave beside old new first third (t ∷ []) []
    course_answer old new first second third t s present moments by continues quiet ticks rises kept sent at reply ends =
        let begins_by = moments.later in
        let next_by : clock third ≤ clock second + 1 = omega (arith, ticks) in
        record {
          sends = s ∷ [];
          added = sent ∙ ap (λ l. l ++ s ∷ []) quiet;
          sent = ap (λ r. r ∷ []) reply;
          since = All-cons (λ (x : Sent). clock first ≤ x.at) s [] (omega (arith, begins_by, rises, at)) (All-nil (λ (x : Sent). clock first ≤ x.at));
          until = All-cons (λ (x : Sent). x.at ≤ clock third) s [] (omega (arith, at)) (All-nil (λ (x : Sent). x.at ≤ clock third));
          steps = (new.state, by, refl);
          begun = (new.state, (new.state, by, refl));
          continues = continues;
          moments = record {
            later = omega (arith, begins_by, rises);
            kept = λ moment images before.
                let within : moment ≤ clock second = omega (arith, before, begins_by) in
                let third_second = kept moment images within in
                let second_first = moments.kept moment images before in
                (λ (h : may_leave third moment images). second_first.0 (third_second.0 h), λ (h : may_leave first moment images). third_second.1 (second_first.1 h));
            holds = λ moment images begins now left. ⊎_elim
                (λ (amid : moment < clock third).
                let within : moment ≤ clock second = omega (arith, amid, next_by) in
                let none : answered moment (s ∷ []) ≡ 0 =
                answered_none moment (clock third) (s ∷ []) amid (All-cons (λ (x : Sent). clock third ≤ x.at) s [] (omega (arith, at)) (All-nil (λ (x : Sent). clock third ≤ x.at))) in
                ⊎_elim
                (λ (h : IsRestored old (images chosen) old.state).
                (old.state, subst (λ (n : ℕ). IsAfterOrNext old (exchange_of t ∷ []) n old.state) (sym none) (inl (after_none old (exchange_of t ∷ []))), h))
                (λ (h : IsRestored old (images chosen) new.state).
                (new.state, subst (λ (n : ℕ). IsAfterOrNext old (exchange_of t ∷ []) n new.state) (sym none) (inr (after_one old (exchange_of t) new.state by)), h))
                (at_each old first second new.state present moments moment images begins within ((kept moment images within).0 left)))
                (λ (last : clock third ≤ moment).
                let all : answered moment (s ∷ []) ≡ 1 =
                answered_all moment (clock third) (s ∷ []) last (All-cons (λ (x : Sent). x.at ≤ clock third) s [] (omega (arith, at)) (All-nil (λ (x : Sent). x.at ≤ clock third))) in (
                  new.state,
                  subst (λ (n : ℕ). IsAfterOrNext old (exchange_of t ∷ []) n new.state) (sym all) (inl (after_one old (exchange_of t) new.state by)),
                  restored_join old new (images chosen) new.state continues (at_present new third moment images ends last now left),
                ))
                (cases_lt moment (clock third));
          };
        }

    -- ---- two courses, one after the other

    all_exchanges : (xs ys more : List Turn) → exchanges ((xs ++ ys) ++ more) ≡ exchanges xs ++ exchanges (ys ++ more)
    all_exchanges xs ys more = ap exchanges (append_assoc xs ys more) ∙ exchanges_join xs (ys ++ more)

    first_exchanges : (xs : List Turn) → exchanges (xs ++ []) ≡ exchanges xs
    first_exchanges xs = ap exchanges (append-nil xs)

    module _ (a b c : Server) (first second third : W) (xs ys more : List Turn) (h : Course clock may_leave beside a b first second xs [])
        (k : Course clock may_leave beside b c second third ys more) where
      -- before the second course began
      leaves_first : (t : ℕ) (images : Images) → clock first ≤ t → t < clock second → may_leave third t images
          → LeavesAnswered a (exchanges ((xs ++ ys) ++ more)) (h.sends ++ k.sends) t images
      leaves_first t images begins amid left =
          let within : t ≤ clock second = omega (arith, amid) in
          let left_before = (k.moments.kept t images within).0 left in
          let (state, after, restored) = h.moments.holds t images begins within left_before in
          let none : answered t k.sends ≡ 0 = answered_none t (clock second) k.sends amid k.since in
          let joined = answered_join t h.sends k.sends in
          let count : answered t h.sends ≡ answered t (h.sends ++ k.sends) = omega (arith, none, joined) in
          let of_first = subst (λ (l : List Exchange). IsAfterOrNext a l (answered t h.sends) state) (first_exchanges xs) after in
          let of_all = next_more a (exchanges xs) (exchanges (ys ++ more)) (answered t h.sends) state of_first in
          let of_turns = subst (λ (l : List Exchange). IsAfterOrNext a l (answered t h.sends) state) (sym (all_exchanges xs ys more)) of_all in
          (state, subst (λ (n : ℕ). IsAfterOrNext a (exchanges ((xs ++ ys) ++ more)) n state) count of_turns, restored)

      -- from its beginning on
      leaves_second : (t : ℕ) (images : Images) → clock second ≤ t → t ≤ clock third → may_leave third t images
          → LeavesAnswered a (exchanges ((xs ++ ys) ++ more)) (h.sends ++ k.sends) t images
      leaves_second t images begins now left =
          let (state, after, restored) = k.moments.holds t images begins now left in
          let all : answered t h.sends ≡ length h.sends = answered_all t (clock second) h.sends begins h.until in
          let turns = sent_length xs h.sends h.sent in
          let steps = exchanges_length xs in
          let joined = answered_join t h.sends k.sends in
          let count : length (exchanges xs) + answered t k.sends ≡ answered t (h.sends ++ k.sends) = omega (arith, all, turns, steps, joined) in
          let of_all = next_join a b (exchanges xs) (exchanges (ys ++ more)) (answered t k.sends) state h.continues.machine h.steps after in
          let of_turns = subst (λ (l : List Exchange). IsAfterOrNext a l (length (exchanges xs) + answered t k.sends) state) (sym (all_exchanges xs ys more)) of_all in
          (state, subst (λ (n : ℕ). IsAfterOrNext a (exchanges ((xs ++ ys) ++ more)) n state) count of_turns, restored_join a b (images chosen) state h.continues restored)

      moments_join : Throughout (clock first) (clock third) (may_leave first) (may_leave third) (LeavesAnswered a (exchanges ((xs ++ ys) ++ more)) (h.sends ++ k.sends))
      moments_join =
          let to_second = h.moments.later in
          let to_third = k.moments.later in
          record {
            later = omega (arith, to_second, to_third);
            kept = λ t images before.
                let within : t ≤ clock second = omega (arith, before, to_second) in
                let third_second = k.moments.kept t images within in
                let second_first = h.moments.kept t images before in
                (λ (l : may_leave third t images). second_first.0 (third_second.0 l), λ (l : may_leave first t images). third_second.1 (second_first.1 l));
            holds = λ t images begins now left. ⊎_elim
                (λ (amid : t < clock second). leaves_first t images begins amid left)
                (λ (behind : clock second ≤ t). leaves_second t images behind now left)
                (cases_lt t (clock second));
          }

      pub courses_join : Course clock may_leave beside a c first third (xs ++ ys) more
      courses_join =
          let to_second = h.moments.later in
          let to_third = k.moments.later in
          let (after, begun) = k.begun in
          record {
            sends = h.sends ++ k.sends;
            added = k.added ∙ (ap (λ l. l ++ k.sends) h.added ∙ append_assoc (beside first).sends h.sends k.sends);
            sent = sent_join xs ys h.sends k.sends h.sent k.sent;
            since = All-append (λ (x : Sent). clock first ≤ x.at) h.sends k.sends h.since
                (All-weaker (λ (x : Sent). clock second ≤ x.at) (λ (x : Sent). clock first ≤ x.at) (λ x later. omega (arith, to_second, later)) k.sends k.since);
            until = All-append (λ (x : Sent). x.at ≤ clock third) h.sends k.sends
                (All-weaker (λ (x : Sent). x.at ≤ clock second) (λ (x : Sent). x.at ≤ clock third) (λ x early. omega (arith, to_third, early)) h.sends h.until) k.until;
            steps = subst (λ (l : List Exchange). Steps a.machine a.state l c.state) (sym (exchanges_join xs ys))
                (steps_join a b (exchanges xs) (exchanges ys) c.state h.continues.machine h.steps k.steps);
            begun = (
              after,
              subst (λ (l : List Exchange). Steps a.machine a.state l after) (sym (all_exchanges xs ys more))
                  (steps_join a b (exchanges xs) (exchanges (ys ++ more)) after h.continues.machine h.steps begun),
            );
            continues = continues_join a b c h.continues k.continues;
            moments = moments_join;
          }

    pub courses_are_one : CoursesJoin clock may_leave beside
    courses_are_one a b c first second third xs ys more h k = courses_join a b c first second third xs ys more h k

    -- ---- the records that are found

    pub found_throughout : (s new : Server) (from to : W) (turns further : List Turn) → (course : Course clock may_leave beside s new from to turns further)
        → AreWithin s.items s.state.revision → AreKept s.back.versions s.machine.view.versions s.items s.state s.items s.revision
        → Throughout (clock from) (clock to) (may_leave from) (may_leave to) (LeavesFound s (exchanges (turns ++ further)) course.sends)
    found_throughout s new from to turns further course within own = record {
      later = course.moments.later;
      kept = course.moments.kept;
      holds = λ t images begins now left.
          let (state, after, restored) = course.moments.holds t images begins now left in
          (state, after, restored_found s (images chosen) state within own restored);
    }

    -- the sends of a front that had sent nothing
    pub sends_are_all : (s new : Server) (from to : W) (turns further : List Turn) → (course : Course clock may_leave beside s new from to turns further) → (beside from).sends ≡ []
        → course.sends ≡ (beside to).sends
    sends_are_all s new from to turns further course none = sym (course.added ∙ ap (λ l. l ++ course.sends) none)
