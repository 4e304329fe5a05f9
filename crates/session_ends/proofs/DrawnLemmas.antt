-- Events that were taken: none, the first, more of them, all.
use Rattle.std.proofs.Common.{◌≡◌, ◌≢◌, ℕ, ◌+◌, ◌≤◌, ◌<◌, List, [], ◌∷◌, ◌++◌, All, Contains, length, take, drop, suc, zero, refl, sym, ◌∙◌, ap, subst, append_assoc, arith}
use Rattle.std.specs.Prelude.{replicate, nat_le, if◌then◌else◌, Bool, true, false}
use Rattle.std.proofs.lemmas.List.{append-nil, length-append, replicate-append-replicate, take-append-le, take_all}
use Rattle.std.proofs.Math.Nat.{lt_of_not-le}
use Rattle.std.proofs.lemmas.List.Elements.{All-contains, All-cons, All-head, All-nil, All-tail, All-take, Contains-push}
use Rattle.std.proofs.lemmas.Bool.Decides.{nat_tests}
use Rattle.disk.specs.Beside.{Beside, FrontEvent, Opened, Piece, Closed, End}
use Rattle.scripts.specs.Lawful.{IsLawful, MayFollow}
use Rattle.scripts.specs.declared.script.ScriptEvent.{ScriptEvent}
use Rattle.scripts.specs.declared.script.ScriptEvent.TheVariants.{Open, Piece as Brings, Close}
use Rattle.session_ends.specs.Drawn.{Fits, HasDrawn, TakesAll, TakesScript}
use Rattle.session_turns.specs.Turns.{HasNoEnd}
use Rattle.world.specs.Events.{left_of, part_of, rest_of}
use Rattle.world.specs.Fronts.{TakesFirst}
use Rattle.world.specs.Tapes.{left_by, parts_of, told, told_from}

parts_join : (xs ys : List ℕ) (coming : List FrontEvent) → parts_of (xs ++ ys) coming ≡ parts_of xs coming ++ parts_of ys (left_by xs coming)
parts_join [] ys coming = refl
parts_join (x ∷ xs) ys coming =
    ap (λ l. part_of x coming ++ l) (parts_join xs ys (left_of x coming))
    ∙ sym (append_assoc (part_of x coming) (parts_of xs (left_of x coming)) (parts_of ys (left_by xs (left_of x coming))))

left_join : (xs ys : List ℕ) (coming : List FrontEvent) → left_by (xs ++ ys) coming ≡ left_by ys (left_by xs coming)
left_join [] ys coming = refl
left_join (x ∷ xs) ys coming = left_join xs ys (left_of x coming)

-- ---- calls

-- a call that takes no event
pub drawn_none : (room : ℕ) (old new : Beside) → new.taken ≡ old.taken → new.coming ≡ old.coming → HasDrawn room old new
drawn_none room old new taken coming = record { calls = 0; taken = taken ∙ sym (append-nil old.taken); coming = coming }

-- a call that takes the first of them
pub drawn_first : (room : ℕ) (event : FrontEvent) (old new : Beside) → TakesFirst room event old new → HasDrawn room old new
drawn_first room event old new first = record {
  calls = 1;
  taken = first.taken ∙ ap (λ l. old.taken ++ l) (sym (append-nil (part_of room old.coming)));
  coming = first.coming;
}

-- calls behind others
pub drawn_join : (room : ℕ) (old mid new : Beside) → HasDrawn room old mid → HasDrawn room mid new → HasDrawn room old new
drawn_join room old mid new h k =
    let n = replicate h.calls room in
    let m = replicate k.calls room in
    let both : n ++ m ≡ replicate (h.calls + k.calls) room = replicate-append-replicate h.calls k.calls room in
    let parts : parts_of n old.coming ++ parts_of m mid.coming ≡ parts_of (replicate (h.calls + k.calls) room) old.coming =
    ap (λ l. parts_of n old.coming ++ parts_of m l) h.coming ∙ sym (parts_join n m old.coming) ∙ ap (λ l. parts_of l old.coming) both in
    record {
      calls = h.calls + k.calls;
      taken = k.taken ∙ ap (λ l. l ++ parts_of m mid.coming) h.taken ∙ append_assoc old.taken (parts_of n old.coming) (parts_of m mid.coming)
          ∙ ap (λ l. old.taken ++ l) parts;
      coming = k.coming ∙ ap (left_by m) h.coming ∙ sym (left_join n m old.coming) ∙ ap (λ l. left_by l old.coming) both;
    }

-- ---- events that have room

left_whole : (b : Bool) (room c : ℕ) (bytes : List ℕ) (later : List FrontEvent) → nat_le (length bytes) room ≡ b → length bytes ≤ room
    → (if b then later else Piece c (drop room bytes) ∷ later) ≡ later
left_whole true room c bytes later is fits = refl
left_whole false room c bytes later is fits = absurd (let longer : room < length bytes = grind (arith, nat_tests) in omega (arith, longer, fits))

-- such a buffer takes the event whole
part_whole : (room : ℕ) (event : FrontEvent) (later : List FrontEvent) → Fits room event
    → (part_of room (event ∷ later) ≡ event ∷ []) × (left_of room (event ∷ later) ≡ later)
part_whole room (Opened c) later fits = (refl, refl)
part_whole room (Piece c bytes) later fits =
    (ap (λ l. Piece c l ∷ []) (take_all room bytes fits), left_whole (nat_le (length bytes) room) room c bytes later refl fits)
part_whole room (Closed c) later fits = (refl, refl)
part_whole room End later fits = (refl, refl)

none_left : (room n : ℕ) → parts_of (replicate n room) [] ≡ []
none_left room zero = refl
none_left room (suc n) = none_left room n

-- so many calls take so many of them
pub parts_whole : (room n : ℕ) (coming : List FrontEvent) → All (Fits room) coming → parts_of (replicate n room) coming ≡ take n coming
parts_whole room zero coming fits = refl
parts_whole room (suc n) [] fits = none_left room n
parts_whole room (suc n) (event ∷ later) fits =
    let one = part_whole room event later (All-head (Fits room) event later fits) in
    ap (λ l. l ++ parts_of (replicate n room) (left_of room (event ∷ later))) one.0
    ∙ ap (λ l. event ∷ parts_of (replicate n room) l) one.1
    ∙ ap (λ l. event ∷ l) (parts_whole room n later (All-tail (Fits room) event later fits))

-- the end is the last of them
take_end : (events before : List FrontEvent) (n : ℕ) → HasNoEnd events → take n (events ++ End ∷ []) ≡ before ++ End ∷ [] → length events < n
take_end events before n none is = lt_of_not-le
    (λ (short : n ≤ length events).
    let front : take n events ≡ before ++ End ∷ [] = sym (take-append-le n events (End ∷ []) short) ∙ is in
    let goes : All (λ (x : FrontEvent). x ≢ End) (before ++ End ∷ []) =
    subst (λ (l : List FrontEvent). All (λ (x : FrontEvent). x ≢ End) l) front (All-take (λ (x : FrontEvent). x ≢ End) n events none) in
    All-contains (λ (x : FrontEvent). x ≢ End) (before ++ End ∷ []) End goes (Contains-push before End) refl)

pub takes_all : TakesAll
takes_all room old new events before h none coming no_end fits ended =
    let n = h.calls in
    let taken : new.taken ≡ take n old.coming = h.taken ∙ ap (λ l. l ++ parts_of (replicate n room) old.coming) none ∙ parts_whole room n old.coming fits in
    let is : take n (events ++ End ∷ []) ≡ before ++ End ∷ [] = ap (take n) (sym coming) ∙ sym taken ∙ ended in
    let long : length events < n = take_end events before n no_end is in
    let all : length old.coming ≤ n = omega (arith, long, length-append events (End ∷ []), ap length coming) in
    taken ∙ take_all n old.coming all

-- ---- the events of a script

-- they have an end, and no other, and have room
record AreTold (room : ℕ) (all : List FrontEvent) : Type 0 where
  events : List FrontEvent
  parts : all ≡ events ++ End ∷ []
  none : HasNoEnd events
  fits : All (Fits room) all

told_more : (room : ℕ) (event : FrontEvent) (all : List FrontEvent) → event ≢ End → Fits room event → AreTold room all → AreTold room (event ∷ all)
told_more room event all other fits h = record {
  events = event ∷ h.events;
  parts = ap (λ l. event ∷ l) h.parts;
  none = All-cons (λ (x : FrontEvent). x ≢ End) event h.events other h.none;
  fits = All-cons (Fits room) event all fits h.fits;
}

told_end : (room : ℕ) → AreTold room (End ∷ [])
told_end room = record {
  events = [];
  parts = refl;
  none = All-nil (λ (x : FrontEvent). x ≢ End);
  fits = All-cons (Fits room) End [] tt (All-nil (Fits room));
}

script_told : (room n : ℕ) (before after : List ScriptEvent) → 4096 ≤ room
    → ((b : List ScriptEvent) (e : ScriptEvent) (a : List ScriptEvent) → before ++ after ≡ b ++ e ∷ a → MayFollow b e)
    → AreTold room (told_from n after)
script_told room n before [] wide may = told_end room
script_told room n before (Open ∷ after) wide may =
    told_more room (Opened n) (told_from (n + 1) after) (λ same. cc) tt
    (script_told room (n + 1) (before ++ Open ∷ []) after wide (λ b e a is. may b e a (sym (append_assoc before (Open ∷ []) after) ∙ is)))
script_told room n before (Brings c bytes ∷ after) wide may =
    let here : MayFollow before (Brings c bytes) = may before (Brings c bytes) after refl in
    let short : length bytes ≤ 4096 = here.2 in
    let fits : length bytes ≤ room = omega (arith, short, wide) in
    told_more room (Piece c bytes) (told_from n after) (λ same. cc) fits
    (script_told room n (before ++ Brings c bytes ∷ []) after wide (λ b e a is. may b e a (sym (append_assoc before (Brings c bytes ∷ []) after) ∙ is)))
script_told room n before (Close c ∷ after) wide may =
    told_more room (Closed c) (told_from n after) (λ same. cc) tt
    (script_told room n (before ++ Close c ∷ []) after wide (λ b e a is. may b e a (sym (append_assoc before (Close c ∷ []) after) ∙ is)))

pub takes_script : TakesScript
takes_script room old new script before wide lawful h none coming ended =
    let told_ = script_told room 0 [] script wide (λ b e a is. lawful.each b e a is) in
    takes_all room old new told_.events before h none (coming ∙ told_.parts) told_.none (subst (All (Fits room)) (sym coming) told_.fits) ended ∙ coming
