-- What a buffer takes at a place of a script.
use Rattle.std.proofs.Common.{◌≡◌, ◌⊎◌, ⊎_elim, ℕ, ◌+◌, ◌-◌, ◌≤◌, ◌<◌, Bool, true, false, if◌then◌else◌, nat_le, List, [], ◌∷◌, ◌++◌, length, get_or, take, drop, suc, refl, sym, ◌∙◌, ap, subst, arith, length-drop, add-one}
use Rattle.std.proofs.Math.Seq.{drop-cons}
use Rattle.std.proofs.lemmas.List.{take_more, take-append-drop, take_all, drop-drop}
use Rattle.std.proofs.lemmas.List.Sums.{count_by_more_yes, count_by_more_no}
use Rattle.std.proofs.lemmas.Bool.Decides.{nat_tests}
use Rattle.disk.specs.Beside.{FrontEvent, Opened as TellsOpened, Piece as TellsPiece, Closed as TellsClosed}
use Rattle.scripts.specs.Lawful.{opens, opened, MayFollow, IsLawful}
use Rattle.scripts.specs.declared.script.ScriptEvent.{ScriptEvent}
use Rattle.scripts.specs.declared.script.ScriptEvent.TheVariants.{Open, Piece, Close}
use Rattle.world.specs.declared.event.Event.{Event}
use Rattle.world.specs.declared.place.Place.{Place}
use Rattle.world.specs.declared.place.Step.{Step}
use Rattle.world.specs.Events.{front_event, part_of, left_of, given_of}
use Rattle.world.specs.Fronts.{IsNumbered}
use Rattle.world.specs.Tapes.{told_from, ahead_of, ahead, calls_for, behind, IsInside, IsPlace, IsReady, IsStep, IsPieceStep}

-- what a buffer of this size takes of the events to come is this event, and one of the noted size takes the same
pub record IsTaken (coming : List FrontEvent) (room note : ℕ) (event : FrontEvent) : Type 0 where
  pub part : part_of room coming ≡ event ∷ []
  pub noted : part_of note coming ≡ part_of room coming
  pub given : given_of room coming ≡ event
  pub left : left_of note coming ≡ left_of room coming
  pub fewer : calls_for (left_of room coming) + 1 ≤ calls_for coming

nat_cases : (t m : ℕ) → (t ≤ m) ⊎ (m < t)
nat_cases t m = grind arith

le_true : (a b : ℕ) → a ≤ b → nat_le a b ≡ true
le_true a b h = grind (arith, nat_tests)

le_false : (a b : ℕ) → b < a → nat_le a b ≡ false
le_false a b h = grind (arith, nat_tests)

opening : (n room : ℕ) (later : List FrontEvent) → IsTaken (TellsOpened n ∷ later) room 0 (TellsOpened n)
opening n room later = record { part = refl; noted = refl; given = refl; left = refl; fewer = omega arith }

closing : (c room : ℕ) (later : List FrontEvent) → IsTaken (TellsClosed c ∷ later) room 0 (TellsClosed c)
closing c room later = record { part = refl; noted = refl; given = refl; left = refl; fewer = omega arith }

whole_piece : (c room note : ℕ) (bytes : List ℕ) (later : List FrontEvent) → 0 < length bytes → length bytes ≤ room → note ≡ length bytes
    → IsTaken (TellsPiece c bytes ∷ later) room note (TellsPiece c (take note bytes))
whole_piece c room note bytes later some fits is =
    let all : take note bytes ≡ bytes = take_all note bytes (omega (arith, is)) in
    let wide : take room bytes ≡ bytes = take_all room bytes fits in
    let shut : nat_le (length bytes) note ≡ true = le_true (length bytes) note (omega (arith, is)) in
    let open_ : nat_le (length bytes) room ≡ true = le_true (length bytes) room fits in
    let rest : left_of room (TellsPiece c bytes ∷ later) ≡ later = ap (λ (b : Bool). (if b then later else TellsPiece c (drop room bytes) ∷ later)) open_ in
    let less : left_of note (TellsPiece c bytes ∷ later) ≡ later = ap (λ (b : Bool). (if b then later else TellsPiece c (drop note bytes) ∷ later)) shut in
    record {
      part = ap (λ (l : List ℕ). TellsPiece c l ∷ []) (wide ∙ sym all);
      noted = ap (λ (l : List ℕ). TellsPiece c l ∷ []) (all ∙ sym wide);
      given = ap (λ (l : List ℕ). TellsPiece c l) (wide ∙ sym all);
      left = less ∙ sym rest;
      fewer = omega (arith, ap calls_for rest, some);
    }

part_piece : (c room note : ℕ) (bytes : List ℕ) (later : List FrontEvent) → 1 ≤ room → room < length bytes → note ≡ room
    → IsTaken (TellsPiece c bytes ∷ later) room note (TellsPiece c (take note bytes))
part_piece c room note bytes later some longer is =
    subst (λ (n : ℕ). IsTaken (TellsPiece c bytes ∷ later) room n (TellsPiece c (take n bytes))) (sym is)
    (let rest : left_of room (TellsPiece c bytes ∷ later) ≡ TellsPiece c (drop room bytes) ∷ later = ap (λ (b : Bool). (if b then later else TellsPiece c (drop room bytes) ∷ later)) (le_false (length bytes) room longer) in
    record { part = refl; noted = refl; given = refl; left = refl; fewer = omega (arith, ap calls_for rest, length-drop room bytes, longer, some) })

-- where a place is before an event
pub split_next : {A : Type 0} (i : ℕ) (xs : List A) (x : A) (later : List A) → drop i xs ≡ x ∷ later
    → (i < length xs) × (drop (i + 1) xs ≡ later) × (take (i + 1) xs ≡ take i xs ++ x ∷ []) × (get_or xs i x ≡ x)
split_next i xs x later e =
    let lt : i < length xs = omega (arith, length-drop i xs, ap length e) in
    let next : drop i xs ≡ get_or xs i x ∷ drop (suc i) xs = drop-cons xs i x lt in
    let here : get_or xs i x ≡ x = cc in
    let rest : drop (suc i) xs ≡ later = cc in
    (lt, rw add-one rest, take_more xs i x lt ∙ ap (λ y. take i xs ++ y ∷ []) here, here)

split_whole : {A : Type 0} (i : ℕ) (xs : List A) (x : A) (later : List A) → drop i xs ≡ x ∷ later → xs ≡ take i xs ++ x ∷ later
split_whole i xs x later e = sym (take-append-drop i xs) ∙ ap (λ l. take i xs ++ l) e

pub may_take : (events : List ScriptEvent) (i : ℕ) (event : ScriptEvent) (later : List ScriptEvent) → IsLawful events
    → drop i events ≡ event ∷ later → MayFollow (take i events) event
may_take events i event later lawful e = lawful.each (take i events) event later (split_whole i events event later e)

start_inside : (before later : List ScriptEvent) → ((b : List ScriptEvent) (e : ScriptEvent) (a : List ScriptEvent) → before ++ later ≡ b ++ e ∷ a → MayFollow b e) → IsInside 0 later
start_inside before [] each = tt
start_inside before (Open ∷ later) each = tt
start_inside before (Piece c bytes ∷ later) each = (each before (Piece c bytes) later refl).1
start_inside before (Close c ∷ later) each = tt

pub inside_at : (events : List ScriptEvent) (i : ℕ) → IsLawful events → IsInside 0 (drop i events)
inside_at events i lawful = start_inside (take i events) (drop i events) (λ b e a is. lawful.each b e a (sym (take-append-drop i events) ∙ is))

pub ahead_start : (n : ℕ) (events : List ScriptEvent) → ahead_of n 0 events ≡ told_from n events
ahead_start n [] = refl
ahead_start n (Open ∷ later) = refl
ahead_start n (Piece c bytes ∷ later) = refl
ahead_start n (Close c ∷ later) = refl

-- the place behind an event
place_behind : (events : List ScriptEvent) (place : Place) (event : ScriptEvent) (later : List ScriptEvent) (count : ℕ) → IsLawful events
    → drop place.index events ≡ event ∷ later → count ≡ opened (take (place.index + 1) events)
    → IsPlace events (behind place count)
place_behind events place event later count lawful e is = record {
  within = omega (arith, (split_next place.index events event later e).0);
  counted = is;
  inside = inside_at events (place.index + 1) lawful;
}

ahead_behind : (events : List ScriptEvent) (place : Place) (event : ScriptEvent) (later : List ScriptEvent) (count : ℕ)
    → drop place.index events ≡ event ∷ later → ahead events (behind place count) ≡ told_from count later
ahead_behind events place event later count e =
    ap (ahead_of count 0) (split_next place.index events event later e).1 ∙ ahead_start count later

counts_more : (events : List ScriptEvent) (i : ℕ) (event : ScriptEvent) (later : List ScriptEvent) → drop i events ≡ event ∷ later
    → opens event ≡ true → opened (take (i + 1) events) ≡ opened (take i events) + 1
counts_more events i event later e is =
    let s = split_next i events event later e in
    count_by_more_yes opens events i event s.0 (ap opens s.3 ∙ is)

counts_same : (events : List ScriptEvent) (i : ℕ) (event : ScriptEvent) (later : List ScriptEvent) → drop i events ≡ event ∷ later
    → opens event ≡ false → opened (take (i + 1) events) ≡ opened (take i events)
counts_same events i event later e is =
    let s = split_next i events event later e in
    count_by_more_no opens events i event s.0 (ap opens s.3 ∙ is)

-- what a step takes at a place
pub record Advances (events : List ScriptEvent) (place : Place) (room : ℕ) (buffer : List ℕ) (step : Step) : Type 0 where
  pub taken : IsTaken (ahead events place) room step.note (front_event step.event buffer)
  pub later : left_of room (ahead events place) ≡ ahead events step.place
  pub there : IsPlace events step.place
  pub numbered : IsNumbered room step.event place.opened step.place.opened

module _ (events : List ScriptEvent) (place : Place) (later : List ScriptEvent) (room : ℕ) (buffer : List ℕ) (lawful : IsLawful events) (here : IsPlace events place) (some : 1 ≤ room) where
  open_advances : (step : Step) → drop place.index events ≡ Open ∷ later → IsStep place Open room buffer step → Advances events place room buffer step
  open_advances step e is = subst (λ (s : Step). Advances events place room buffer s) (sym is) (
      let before : ahead events place ≡ TellsOpened place.opened ∷ told_from (place.opened + 1) later = ap (ahead_of place.opened place.offset) e in
      let count : place.opened + 1 ≡ opened (take (place.index + 1) events) = ap (λ n. n + 1) here.counted ∙ sym (counts_more events place.index Open later e refl) in
      record {
        taken = subst (λ (l : List FrontEvent). IsTaken l room 0 (TellsOpened place.opened)) (sym before) (opening place.opened room (told_from (place.opened + 1) later));
        later = ap (left_of room) before ∙ sym (ahead_behind events place Open later (place.opened + 1) e);
        there = place_behind events place Open later (place.opened + 1) lawful e count;
        numbered = (refl, refl);
      })

  close_advances : (c : ℕ) (step : Step) → drop place.index events ≡ Close c ∷ later → IsStep place (Close c) room buffer step → Advances events place room buffer step
  close_advances c step e is = subst (λ (s : Step). Advances events place room buffer s) (sym is) (
      let before : ahead events place ≡ TellsClosed c ∷ told_from place.opened later = ap (ahead_of place.opened place.offset) e in
      let count : place.opened ≡ opened (take (place.index + 1) events) = here.counted ∙ sym (counts_same events place.index (Close c) later e refl) in
      let may : MayFollow (take place.index events) (Close c) = may_take events place.index (Close c) later lawful e in
      record {
        taken = subst (λ (l : List FrontEvent). IsTaken l room 0 (TellsClosed c)) (sym before) (closing c room (told_from place.opened later));
        later = ap (left_of room) before ∙ sym (ahead_behind events place (Close c) later place.opened e);
        there = place_behind events place (Close c) later place.opened lawful e count;
        numbered = (omega (arith, may.0, here.counted), refl);
      })

  module _ (c : ℕ) (bytes : List ℕ) (step : Step) (e : drop place.index events ≡ Piece c bytes ∷ later) (is : IsPieceStep place c bytes room buffer step) where
    before : ahead events place ≡ TellsPiece c (drop place.offset bytes) ∷ told_from place.opened later
    before = ap (ahead_of place.opened place.offset) e

    offset_inside : place.offset < length bytes
    offset_inside = subst (λ (l : List ScriptEvent). IsInside place.offset l) e here.inside

    told_piece : front_event step.event buffer ≡ TellsPiece c (take step.note (drop place.offset bytes))
    told_piece = ap (λ v. front_event v buffer) is.event ∙ ap (λ (l : List ℕ). TellsPiece c l) is.same

    numbered_piece : step.place.opened ≡ place.opened → IsNumbered room step.event place.opened step.place.opened
    numbered_piece same =
        let may : MayFollow (take place.index events) (Piece c bytes) = may_take events place.index (Piece c bytes) later lawful e in
        subst (λ (v : Event). IsNumbered room v place.opened step.place.opened) (sym is.event)
        (omega (arith, may.0.0, here.counted), omega (arith, is.note, some, offset_inside), omega (arith, is.note), same)

    whole_advances : length bytes ≤ place.offset + room → Advances events place room buffer step
    whole_advances fits =
        let size : length (drop place.offset bytes) ≡ length bytes - place.offset = length-drop place.offset bytes in
        let note : step.note ≡ length (drop place.offset bytes) = omega (arith, is.note, size, fits) in
        let passed : nat_le (length bytes) (place.offset + step.note) ≡ true = le_true (length bytes) (place.offset + step.note) (omega (arith, note, size)) in
        let there : step.place ≡ behind place place.opened = is.there ∙ ap (λ (b : Bool). (if b then behind place place.opened else record { index = place.index; offset = place.offset + step.note; opened = place.opened })) passed in
        let count : place.opened ≡ opened (take (place.index + 1) events) = here.counted ∙ sym (counts_same events place.index (Piece c bytes) later e refl) in
        let wide : nat_le (length (drop place.offset bytes)) room ≡ true = le_true (length (drop place.offset bytes)) room (omega (arith, size, fits)) in
        let left : left_of room (ahead events place) ≡ told_from place.opened later =
        ap (left_of room) before ∙ ap (λ (b : Bool). (if b then told_from place.opened later else TellsPiece c (drop room (drop place.offset bytes)) ∷ told_from place.opened later)) wide in
        record {
          taken = subst (λ (v : FrontEvent). IsTaken (ahead events place) room step.note v) (sym told_piece)
              (subst (λ (l : List FrontEvent). IsTaken l room step.note (TellsPiece c (take step.note (drop place.offset bytes)))) (sym before)
              (whole_piece c room step.note (drop place.offset bytes) (told_from place.opened later) (omega (arith, size, offset_inside)) (omega (arith, size, fits)) note));
          later = left ∙ sym (ahead_behind events place (Piece c bytes) later place.opened e) ∙ ap (ahead events) (sym there);
          there = subst (λ (p : Place). IsPlace events p) (sym there) (place_behind events place (Piece c bytes) later place.opened lawful e count);
          numbered = numbered_piece (ap (λ (p : Place). p.opened) there);
        }

    part_advances : place.offset + room < length bytes → Advances events place room buffer step
    part_advances short =
        let size : length (drop place.offset bytes) ≡ length bytes - place.offset = length-drop place.offset bytes in
        let note : step.note ≡ room = omega (arith, is.note, short) in
        let within : nat_le (length bytes) (place.offset + step.note) ≡ false = le_false (length bytes) (place.offset + step.note) (omega (arith, note, short)) in
        let further : Place = record { index = place.index; offset = place.offset + room; opened = place.opened } in
        let there : step.place ≡ further = is.there ∙ ap (λ (b : Bool). (if b then behind place place.opened else record { index = place.index; offset = place.offset + step.note; opened = place.opened })) within ∙ ap (λ (n : ℕ). record { index = place.index; offset = place.offset + n; opened = place.opened }) note in
        let narrow : nat_le (length (drop place.offset bytes)) room ≡ false = le_false (length (drop place.offset bytes)) room (omega (arith, size, short)) in
        let left : left_of room (ahead events place) ≡ TellsPiece c (drop room (drop place.offset bytes)) ∷ told_from place.opened later =
        ap (left_of room) before ∙ ap (λ (b : Bool). (if b then told_from place.opened later else TellsPiece c (drop room (drop place.offset bytes)) ∷ told_from place.opened later)) narrow in
        let beyond : ahead events further ≡ TellsPiece c (drop (place.offset + room) bytes) ∷ told_from place.opened later = ap (ahead_of place.opened (place.offset + room)) e in
        let same : left_of room (ahead events place) ≡ ahead events further =
        left ∙ ap (λ (l : List ℕ). TellsPiece c l ∷ told_from place.opened later) (drop-drop room place.offset bytes) ∙ sym beyond in
        record {
          taken = subst (λ (v : FrontEvent). IsTaken (ahead events place) room step.note v) (sym told_piece)
              (subst (λ (l : List FrontEvent). IsTaken l room step.note (TellsPiece c (take step.note (drop place.offset bytes)))) (sym before)
              (part_piece c room step.note (drop place.offset bytes) (told_from place.opened later) some (omega (arith, size, short)) note));
          later = same ∙ ap (ahead events) (sym there);
          there = subst (λ (p : Place). IsPlace events p) (sym there) (record {
            within = here.within;
            counted = here.counted;
            inside = subst (λ (l : List ScriptEvent). IsInside (place.offset + room) l) (sym e) short;
          });
          numbered = numbered_piece (ap (λ (p : Place). p.opened) there);
        }

    piece_advances : Advances events place room buffer step
    piece_advances = ⊎_elim whole_advances part_advances (nat_cases (length bytes) (place.offset + room))

pub advances : (events : List ScriptEvent) (place : Place) (event : ScriptEvent) (later : List ScriptEvent) (room : ℕ) (buffer : List ℕ) (step : Step)
    → IsLawful events → IsPlace events place → 1 ≤ room → drop place.index events ≡ event ∷ later → IsStep place event room buffer step
    → Advances events place room buffer step
advances events place Open later room buffer step lawful here some e is = open_advances events place later room buffer lawful here some step e is
advances events place (Piece c bytes) later room buffer step lawful here some e is = piece_advances events place later room buffer lawful here some c bytes step e is
advances events place (Close c) later room buffer step lawful here some e is = close_advances events place later room buffer lawful here some c step e is

-- the event at a place can be taken
pub ready : (events : List ScriptEvent) (place : Place) (event : ScriptEvent) (later : List ScriptEvent) → IsLawful events → IsPlace events place
    → drop place.index events ≡ event ∷ later → IsReady place event
ready events place Open later lawful here e =
    let may : MayFollow (take place.index events) Open = may_take events place.index Open later lawful e in
    omega (arith, may.1, here.counted)
ready events place (Piece c bytes) later lawful here e =
    let may : MayFollow (take place.index events) (Piece c bytes) = may_take events place.index (Piece c bytes) later lawful e in
    (subst (λ (l : List ScriptEvent). IsInside place.offset l) e here.inside, may.2)
ready events place (Close c) later lawful here e = tt
