-- A tape before and after a call.
use Rattle.std.proofs.Common.{◌≡◌, ℕ, ◌+◌, ◌≤◌, Bool, true, false, List, [], ◌∷◌, ◌++◌, length, drop, refl, sym, ◌∙◌, ap, subst, arith, append_assoc, length-append, length-drop}
use Rattle.std.specs.Prelude.{Contains}
use Rattle.std.proofs.lemmas.List.{append-nil}
use Rattle.std.proofs.lemmas.List.Elements.{Contains-push}
use Rattle.disk.specs.Beside.{FrontEvent, End as TellsEnd}
use Rattle.scripts.specs.declared.script.ScriptEvent.{ScriptEvent}
use Rattle.world.specs.declared.place.Place.{Place}
use Rattle.world.specs.declared.place.Step.{Step}
use Rattle.world.specs.Events.{front_event, part_of, left_of, given_of}
use Rattle.world.specs.Rules.{nothing_taken, IsLawful}
use Rattle.world.specs.Tapes.{told, parts_of, left_by, calls_for, ahead, ahead_of, IsPlace, IsStep, rooms_of, taken_of, coming_of, IsKept, TakesNext}
use Rattle.world.proofs.RuleLemmas.{lawful_front, nothing_after_end, cut_behind}
use Rattle.world.proofs.StepLemmas.{IsTaken, Advances, advances}

parts_more : (rooms : List ℕ) (room : ℕ) (coming : List FrontEvent)
    → parts_of (rooms ++ room ∷ []) coming ≡ parts_of rooms coming ++ part_of room (left_by rooms coming)
parts_more [] room coming = append-nil (part_of room coming)
parts_more (r ∷ rooms) room coming =
    ap (λ l. part_of r coming ++ l) (parts_more rooms room (left_of r coming))
    ∙ sym (append_assoc (part_of r coming) (parts_of rooms (left_of r coming)) (part_of room (left_by rooms (left_of r coming))))

left_more : (rooms : List ℕ) (room : ℕ) (coming : List FrontEvent) → left_by (rooms ++ room ∷ []) coming ≡ left_of room (left_by rooms coming)
left_more [] room coming = refl
left_more (r ∷ rooms) room coming = left_more rooms room (left_of r coming)

some_calls : (coming : List FrontEvent) (n : ℕ) → n + 1 ≤ calls_for coming → coming ≡ [] → ⊥
some_calls coming n some none = omega (arith, some, ap calls_for none)

end_comes : (coming : List FrontEvent) → coming ≡ TellsEnd ∷ [] → coming ≡ [] → ⊥
end_comes coming is none = omega (arith, ap length is, ap length none)

end_goes : true ≡ false → ⊥
end_goes e = cc

ahead_none : (n offset : ℕ) (rest : List ScriptEvent) → length rest ≡ 0 → ahead_of n offset rest ≡ TellsEnd ∷ []
ahead_none n offset [] none = refl
ahead_none n offset (event ∷ later) none = absurd (omega (arith, none))

-- what a buffer takes of events that are lawful with those before
module _ (taken coming later part : List FrontEvent) (room : ℕ) (event : FrontEvent) (some : 1 ≤ room) (lawful : IsLawful (taken ++ coming))
    (is : part_of room coming ≡ part) (left : left_of room coming ≡ later) where
  lawful_later : IsLawful ((taken ++ part) ++ later)
  lawful_later =
      subst (λ (l : List FrontEvent). IsLawful l) (sym (append_assoc taken part later))
      (subst (λ (l : List FrontEvent). IsLawful (taken ++ (part ++ l))) left
      (subst (λ (p : List FrontEvent). IsLawful (taken ++ (p ++ left_of room coming))) is
      (cut_behind room nothing_taken taken coming some lawful)))

  lawful_taken : IsLawful (taken ++ part)
  lawful_taken = lawful_front nothing_taken (taken ++ part) later lawful_later

-- a call that takes an event of the script
module _ (events : List ScriptEvent) (noted : List ℕ) (place next : Place) (room note : ℕ) (event : FrontEvent) (some : 1 ≤ room)
    (taken : IsTaken (ahead events place) room note event) (later : left_of room (ahead events place) ≡ ahead events next) (there : IsPlace events next) where
  module _ (before after : ℕ) (room_left : before ≤ after + 1) (kept : IsKept events noted before place false) where
    part_here : part_of room (coming_of events noted false) ≡ event ∷ []
    part_here = ap (part_of room) kept.here ∙ taken.part

    note_here : part_of note (coming_of events noted false) ≡ event ∷ []
    note_here = ap (part_of note) kept.here ∙ taken.noted ∙ taken.part

    left_here : left_of room (coming_of events noted false) ≡ ahead events next
    left_here = ap (left_of room) kept.here ∙ later

    pub taken_more : taken_of events (noted ++ note ∷ []) false ≡ taken_of events noted false ++ event ∷ []
    taken_more = parts_more noted note (told events) ∙ ap (λ l. taken_of events noted false ++ l) note_here

    pub coming_more : coming_of events (noted ++ note ∷ []) false ≡ ahead events next
    coming_more = left_more noted note (told events) ∙ ap (left_of note) kept.here ∙ taken.left ∙ later

    pub kept_more : IsKept events (noted ++ note ∷ []) after next false
    kept_more =
        let fewer : calls_for (ahead events next) + 1 ≤ calls_for (ahead events place) = omega (arith, taken.fewer, ap calls_for later) in
        record {
          script = kept.script;
          counts = there;
          here = coming_more;
          lawful = subst (λ (l : List FrontEvent). IsLawful (taken_of events (noted ++ note ∷ []) false ++ l)) (sym coming_more)
              (subst (λ (l : List FrontEvent). IsLawful (l ++ ahead events next)) (sym taken_more)
              (lawful_later (taken_of events noted false) (coming_of events noted false) (ahead events next) (event ∷ []) room event some kept.lawful part_here left_here));
          room = omega (arith, ap calls_for coming_more, fewer, ap calls_for kept.here, kept.room, room_left);
          counted = omega (arith, ap length taken_more, length-append (taken_of events noted false) (event ∷ []), length-append noted (note ∷ []), kept.counted);
          at_end = λ e. cc;
          end_taken = λ e. cc;
        }

    pub takes_more : (before_count after_count : ℕ) → TakesNext room event
        (record { opened = before_count; taken = taken_of events noted false; coming = coming_of events noted false })
        (record { opened = after_count; taken = taken_of events (noted ++ note ∷ []) false; coming = coming_of events (noted ++ note ∷ []) false })
    takes_more before_count after_count = record {
      given = sym (ap (given_of room) kept.here ∙ taken.given);
      taken = taken_more ∙ ap (λ l. taken_of events noted false ++ l) (sym part_here);
      coming = coming_more ∙ sym left_here;
      going = λ _. taken_more;
      ended = λ end. absurd (some_calls (coming_of events noted false) (calls_for (left_of room (ahead events place)))
          (omega (arith, taken.fewer, ap calls_for kept.here))
          (nothing_after_end nothing_taken (taken_of events noted false) (coming_of events noted false) end kept.lawful));
      lawful = subst (λ (l : List FrontEvent). IsLawful l) (sym taken_more)
          (lawful_taken (taken_of events noted false) (coming_of events noted false) (ahead events next) (event ∷ []) room event some kept.lawful part_here left_here);
    }

-- the end of the script
module _ (events : List ScriptEvent) (noted : List ℕ) (place : Place) (room left : ℕ) (none : length (drop place.index events) ≡ 0) where
  none_ahead : ahead events place ≡ TellsEnd ∷ []
  none_ahead = ahead_none place.opened place.offset (drop place.index events) none

  module _ (kept : IsKept events noted left place false) where
    end_here : coming_of events noted false ≡ TellsEnd ∷ []
    end_here = kept.here ∙ none_ahead

    end_taken_more : taken_of events noted true ≡ taken_of events noted false ++ TellsEnd ∷ []
    end_taken_more = parts_more noted 0 (told events) ∙ ap (λ l. taken_of events noted false ++ part_of 0 l) end_here

    end_coming : coming_of events noted true ≡ []
    end_coming = left_more noted 0 (told events) ∙ ap (left_of 0) end_here

    end_part : part_of room (coming_of events noted false) ≡ TellsEnd ∷ []
    end_part = ap (part_of room) end_here

    end_left : left_of room (coming_of events noted false) ≡ []
    end_left = ap (left_of room) end_here

    kept_end : 1 ≤ room → IsKept events noted left place true
    kept_end some = record {
      script = kept.script;
      counts = kept.counts;
      here = end_coming;
      lawful = subst (λ (l : List FrontEvent). IsLawful (taken_of events noted true ++ l)) (sym end_coming)
          (subst (λ (l : List FrontEvent). IsLawful (l ++ [])) (sym end_taken_more)
          (lawful_later (taken_of events noted false) (coming_of events noted false) [] (TellsEnd ∷ []) room TellsEnd some kept.lawful end_part end_left));
      room = omega (arith, ap calls_for end_coming);
      counted = omega (arith, ap length end_taken_more, length-append (taken_of events noted false) (TellsEnd ∷ []), length-append noted (0 ∷ []), kept.counted);
      at_end = λ e. omega (arith, none, length-drop place.index events, kept.counts.within);
      end_taken = λ e. subst (λ (l : List FrontEvent). Contains l TellsEnd) (sym end_taken_more) (Contains-push (taken_of events noted false) TellsEnd);
    }

    takes_end : 1 ≤ room → (before_count after_count : ℕ) → TakesNext room TellsEnd
        (record { opened = before_count; taken = taken_of events noted false; coming = coming_of events noted false })
        (record { opened = after_count; taken = taken_of events noted true; coming = coming_of events noted true })
    takes_end some before_count after_count = record {
      given = sym (ap (given_of room) end_here);
      taken = end_taken_more ∙ ap (λ l. taken_of events noted false ++ l) (sym end_part);
      coming = end_coming ∙ sym end_left;
      going = λ _. end_taken_more;
      ended = λ end. absurd (end_comes (coming_of events noted false) end_here
          (nothing_after_end nothing_taken (taken_of events noted false) (coming_of events noted false) end kept.lawful));
      lawful = subst (λ (l : List FrontEvent). IsLawful l) (sym end_taken_more)
          (lawful_taken (taken_of events noted false) (coming_of events noted false) [] (TellsEnd ∷ []) room TellsEnd some kept.lawful end_part end_left);
    }

  takes_nothing : (before_count after_count : ℕ) → IsKept events noted left place true → TakesNext room TellsEnd
      (record { opened = before_count; taken = taken_of events noted true; coming = coming_of events noted true })
      (record { opened = after_count; taken = taken_of events noted true; coming = coming_of events noted true })
  takes_nothing before_count after_count kept = record {
    given = sym (ap (given_of room) kept.here);
    taken = sym (append-nil (taken_of events noted true)) ∙ ap (λ l. taken_of events noted true ++ part_of room l) (sym kept.here);
    coming = kept.here ∙ ap (left_of room) (sym kept.here);
    going = λ not. absurd (not (kept.end_taken refl));
    ended = λ end. (refl, refl);
    lawful = lawful_front nothing_taken (taken_of events noted true) (coming_of events noted true) kept.lawful;
  }

-- a call at the end of the script, whether the end was taken or not
pub kept_at_end : (events : List ScriptEvent) (noted : List ℕ) (place : Place) (room left : ℕ) (ended : Bool) → length (drop place.index events) ≡ 0
    → 1 ≤ room → IsKept events noted left place ended → IsKept events noted left place true
kept_at_end events noted place room left true none some kept = kept
kept_at_end events noted place room left false none some kept = kept_end events noted place room left none kept some

pub takes_at_end : (events : List ScriptEvent) (noted : List ℕ) (place : Place) (room left : ℕ) (ended : Bool) (before_count after_count : ℕ) → length (drop place.index events) ≡ 0
    → 1 ≤ room → IsKept events noted left place ended → TakesNext room TellsEnd
    (record { opened = before_count; taken = taken_of events noted ended; coming = coming_of events noted ended })
    (record { opened = after_count; taken = taken_of events noted true; coming = coming_of events noted true })
takes_at_end events noted place room left true before_count after_count none some kept = takes_nothing events noted place room left none before_count after_count kept
takes_at_end events noted place room left false before_count after_count none some kept = takes_end events noted place room left none kept some before_count after_count

-- the end wasn't taken while an event of the script is to come
pub still_going : (events : List ScriptEvent) (noted : List ℕ) (place : Place) (left : ℕ) (ended : Bool) (event : ScriptEvent) (later : List ScriptEvent)
    → drop place.index events ≡ event ∷ later → IsKept events noted left place ended → ended ≡ false
still_going events noted place left true event later e kept =
    absurd (omega (arith, kept.at_end refl, length-drop place.index events, ap length e))
still_going events noted place left false event later e kept = refl

-- a call at an event of the script
module _ (events : List ScriptEvent) (noted : List ℕ) (place : Place) (room before : ℕ) (buffer : List ℕ) (event : ScriptEvent) (later : List ScriptEvent) (step : Step)
    (e : drop place.index events ≡ event ∷ later) (some : 1 ≤ room) (is : IsStep place event room buffer step) where
  advanced : IsKept events noted before place false → Advances events place room buffer step
  advanced kept = advances events place event later room buffer step kept.script kept.counts some e is

  kept_going : (after : ℕ) → before ≤ after + 1 → IsKept events noted before place false → IsKept events (noted ++ step.note ∷ []) after step.place false
  kept_going after fits kept =
      let a = advanced kept in
      kept_more events noted place step.place room step.note (front_event step.event buffer) some a.taken a.later a.there before after fits kept

  takes_going : (after : ℕ) → before ≤ after + 1 → IsKept events noted before place false → TakesNext room (front_event step.event buffer)
      (record { opened = place.opened; taken = taken_of events noted false; coming = coming_of events noted false })
      (record { opened = step.place.opened; taken = taken_of events (noted ++ step.note ∷ []) false; coming = coming_of events (noted ++ step.note ∷ []) false })
  takes_going after fits kept =
      let a = advanced kept in
      takes_more events noted place step.place room step.note (front_event step.event buffer) some a.taken a.later a.there before after fits kept place.opened step.place.opened

  pub kept_at_event : (ended : Bool) (after : ℕ) → before ≤ after + 1 → IsKept events noted before place ended → IsKept events (noted ++ step.note ∷ []) after step.place ended
  kept_at_event true after fits kept = absurd (end_goes (still_going events noted place before true event later e kept))
  kept_at_event false after fits kept = kept_going after fits kept

  pub takes_at_event : (ended : Bool) (after : ℕ) → before ≤ after + 1 → IsKept events noted before place ended → TakesNext room (front_event step.event buffer)
      (record { opened = place.opened; taken = taken_of events noted ended; coming = coming_of events noted ended })
      (record { opened = step.place.opened; taken = taken_of events (noted ++ step.note ∷ []) ended; coming = coming_of events (noted ++ step.note ∷ []) ended })
  takes_at_event true after fits kept = absurd (end_goes (still_going events noted place before true event later e kept))
  takes_at_event false after fits kept = takes_going after fits kept

  pub room_at_event : (ended : Bool) → IsKept events noted before place ended → 1 ≤ before
  room_at_event true kept = absurd (end_goes (still_going events noted place before true event later e kept))
  room_at_event false kept = omega (arith, (advanced kept).taken.fewer, ap calls_for kept.here, kept.room)

-- how many events were taken
pub seen_of : (events : List ScriptEvent) (noted : List ℕ) (room : ℕ) (place : Place) (ended : Bool) → IsKept events noted room place ended
    → length (taken_of events noted ended) ≡ length (rooms_of noted ended)
seen_of events noted room place ended kept = kept.counted
