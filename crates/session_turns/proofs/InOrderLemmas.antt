-- Where each reply went, the turns are the items in the order in which the pieces complete them.
use Rattle.std.proofs.Common.{◌≡◌, ◌⊎◌, ◌==◌, inl, inr, ℕ, ◌+◌, ◌||◌, Bool, true, false, cond, List, [], ◌∷◌, ◌++◌, length, Option, Some, None, option_map, refl, sym, ◌∙◌, ap, subst, arith, append_assoc}
use Rattle.std.specs.Prelude.{All, not}
use Rattle.std.proofs.lemmas.Bool.{cases_Bool}
use Rattle.std.proofs.lemmas.List.{append-nil, map-append, length_push}
use Rattle.std.proofs.lemmas.List.Elements.{All-nil, All-cons, All-head, All-tail}
use Rattle.disk.specs.Beside.{FrontEvent, Opened, Piece, Closed, End}
use Rattle.http_front.specs.Items.{Item, is_final}
use Rattle.conn_mux.specs.Flows.{GivesNone}
use Rattle.conn_mux.specs.Streams.{IsLeft}
use Rattle.conn_mux.specs.Orders.{Streams, AreCompleted, streams_after, opens, brings, drops, items_from, IsOrder}
use Rattle.conn_mux.specs.declared.flow.Flow.{Flow}
use Rattle.conn_mux.specs.declared.flow.Flow.TheVariants.{Ended}
use Rattle.conn_mux.proofs.StreamLemmas.{left_more, left_none}
use Rattle.session_turns.specs.Turns.{Turn, items_in, EndsAtLast, AreOf, BeginWith, AreCutShort, AreTurnsOfPiece, Position, beginning, behind, Leads, AreTurns}
use Rattle.session_turns.specs.Laws.{orders_of, items_answered}
use Rattle.session_turns.proofs.TurnLemmas.{some_ended, last_item, behind_going, behind_ended}
use Rattle.session_turns.proofs.CaughtLemmas.{of_each}

-- ---- a stream that an item ended

abbrev HasEnded : List ℕ → Type 0
HasEnded stream = (given : List Item) × IsLeft stream given Ended

ended_more : (stream bytes : List ℕ) → HasEnded stream → HasEnded (stream ++ bytes)
ended_more stream bytes h = (h.0, left_more stream bytes h.0 Ended h.1)

ended_completes : (stream bytes : List ℕ) → HasEnded stream → AreCompleted (Some stream) bytes []
ended_completes stream bytes h =
    let before = left_none stream h.0 Ended h.1 tt in
    let all = left_none (stream ++ bytes) (h.0 ++ []) Ended (subst (λ (z : List Item). IsLeft (stream ++ bytes) z Ended) (sym (append-nil h.0)) (left_more stream bytes h.0 Ended h.1)) tt in
    (h.0, before.0, all.0, before.1, all.1)

final_left : (stream : List ℕ) (items : List Item) (item : Item) (left : Flow) → is_final item ≡ true → IsLeft stream (items ++ item ∷ []) left → left ≡ Ended
final_left stream [] item left final h = (h.2 final).1
final_left stream (i ∷ items) item left final h =
    elim (cases_Bool (is_final i)) [
      | inl ended ↦ absurd (omega (arith, ap length (h.2 ended).0, length_push items item))
      | inr goes ↦ final_left h.0 items item left final (h.3 goes)
    ]

final_from : (a b : Bool) → (a || not b) ≡ true → b ≡ true → a ≡ true
final_from true b h e = refl
final_from false true h e = h
final_from false false h e = e

-- the last item of turns whose replies went is final, so the stream has ended
ended_by : (stream bytes : List ℕ) (turns : List Turn) (h : EndsAtLast turns) (begins : BeginWith stream bytes (items_in turns)) → h.last.went ≡ true → begins.2 ≡ Ended
ended_by stream bytes turns h begins went =
    let final = final_from (is_final h.last.item) h.last.went h.ended went in
    let whole : begins.0 ++ items_in turns ≡ (begins.0 ++ items_in h.front) ++ h.last.item ∷ [] = ap (λ (z : List Item). begins.0 ++ z) (last_item turns h) ∙ sym (append_assoc begins.0 (items_in h.front) (h.last.item ∷ [])) in
    final_left (stream ++ bytes) (begins.0 ++ items_in h.front) h.last.item begins.2 final (subst (λ (z : List Item). IsLeft (stream ++ bytes) z begins.2) whole begins.4)

-- ---- the streams of a session, and those of an order

-- the same stream; or the session doesn't hold one that has ended
abbrev Agrees : Option (List ℕ) → Option (List ℕ) → Type 0
Agrees here there = (there ≡ here) ⊎ ((here ≡ None) × ((stream : List ℕ) × (there ≡ Some stream) × HasEnded stream))

agrees_more : (here there : Option (List ℕ)) (bytes : List ℕ) → Agrees here there → Agrees (option_map (λ s. s ++ bytes) here) (option_map (λ s. s ++ bytes) there)
agrees_more here there bytes (inl e) = inl (ap (option_map (λ s. s ++ bytes)) e)
agrees_more here there bytes (inr h) = inr (
  ap (option_map (λ s. s ++ bytes)) h.0,
  (h.1.0 ++ bytes, ap (option_map (λ s. s ++ bytes)) h.1.1, ended_more h.1.0 bytes h.1.2),
)

whole_completed : (here there : Option (List ℕ)) (bytes : List ℕ) (items : List Item) → Agrees here there → AreCompleted here bytes items → AreCompleted there bytes items
whole_completed here there bytes items (inl e) h = subst (λ (s : Option (List ℕ)). AreCompleted s bytes items) (sym e) h
whole_completed here there bytes items (inr w) h =
    let none : items ≡ [] = subst (λ (s : Option (List ℕ)). AreCompleted s bytes items) w.0 h in
    subst (λ (s : Option (List ℕ)). AreCompleted s bytes items) (sym w.1.1) (subst (λ (z : List Item). AreCompleted (Some w.1.0) bytes z) (sym none) (ended_completes w.1.0 bytes w.1.2))

-- what a piece that was cut short by a last request completes: all, and the stream has ended
abbrev IsCut : Option (List ℕ) → List ℕ → List Item → Type 0
IsCut there bytes items = AreCompleted there bytes items
    × ((stream : List ℕ) × (option_map (λ s. s ++ bytes) there ≡ Some stream) × HasEnded stream)

cut_completed : (here : Option (List ℕ)) (bytes : List ℕ) (turns : List Turn) → AreCutShort here bytes turns → ((h : EndsAtLast turns) → h.last.went ≡ true) → IsCut here bytes (items_in turns)
cut_completed None bytes turns h went = absurd h
cut_completed (Some stream) bytes turns h went =
    let ended = ended_by stream bytes turns h.0 h.1 (went h.0) in
    let none : GivesNone h.1.2 = subst (λ (f : Flow). GivesNone f) (sym ended) tt in
    let all = left_none (stream ++ bytes) (h.1.0 ++ items_in turns) h.1.2 h.1.4 none in (
      (h.1.0, h.1.1, all.0, h.1.3, all.1),
      (stream ++ bytes, refl, (h.1.0 ++ items_in turns, subst (λ (f : Flow). IsLeft (stream ++ bytes) (h.1.0 ++ items_in turns) f) ended h.1.4)),
    )

cut_held : (here there : Option (List ℕ)) (bytes : List ℕ) (turns : List Turn) → Agrees here there → AreCutShort here bytes turns → there ≡ here
cut_held here there bytes turns (inl e) h = e
cut_held here there bytes turns (inr w) h = absurd (subst (λ (s : Option (List ℕ)). AreCutShort s bytes turns) w.0 h)

-- ---- turns whose replies all went

all_left : {A : Type 0} (P : A → Type 0) (xs ys : List A) → All P (xs ++ ys) → All P xs
all_left P [] ys all = All-nil P
all_left P (x ∷ xs) ys all = All-cons P x xs (All-head P x (xs ++ ys) all) (all_left P xs ys (All-tail P x (xs ++ ys) all))

all_right : {A : Type 0} (P : A → Type 0) (xs ys : List A) → All P (xs ++ ys) → All P ys
all_right P [] ys all = all
all_right P (x ∷ xs) ys all = all_right P xs ys (All-tail P x (xs ++ ys) all)

abbrev AllWent : List Turn → Type 0
AllWent turns = All (λ t. t.went ≡ true) turns

last_went : (turns : List Turn) → AllWent turns → (h : EndsAtLast turns) → h.last.went ≡ true
last_went turns all h =
    let parts : AllWent (h.front ++ h.last ∷ []) = subst AllWent h.parts all in
    All-head (λ (t : Turn). t.went ≡ true) h.last [] (all_right (λ (t : Turn). t.went ≡ true) h.front (h.last ∷ []) parts)

items_of_turns : (c seen : ℕ) (turns : List Turn) → AreOf c seen turns → items_answered turns ≡ items_from c (items_in turns)
items_of_turns c seen [] of = refl
items_of_turns c seen (t ∷ turns) of =
    let head = All-head (λ (t : Turn). (t.c ≡ c) × (t.seen ≡ seen)) t turns of in
    let later = items_of_turns c seen turns (All-tail (λ (t : Turn). (t.c ≡ c) × (t.seen ≡ seen)) t turns of) in
    λ n. (head.0 n, t.item) ∷ later n

-- ---- the order, one event further

agrees_if : (b : Bool) (x y v w : Option (List ℕ)) → Agrees x v → Agrees y w → Agrees (cond b x y) (cond b v w)
agrees_if true x y v w h k = h
agrees_if false x y v w h k = k

cut_ends : (stream : Option (List ℕ)) (bytes : List ℕ) (turns : List Turn) → AreCutShort stream bytes turns → EndsAtLast turns
cut_ends None bytes turns h = absurd h
cut_ends (Some stream) bytes turns h = h.0

abbrev Completed : Position → Streams → ℕ → List ℕ → List Turn → Type 0
Completed p there c bytes turns = AreCompleted (there c) bytes (items_in turns)
    × ((d : ℕ) → Agrees ((behind p (Piece c bytes) turns).streams d) (streams_after there (brings c bytes) d))

piece_completed : (p : Position) (there : Streams) (c : ℕ) (bytes : List ℕ) (turns : List Turn) → ((d : ℕ) → Agrees (p.streams d) (there d)) → AllWent turns → AreTurnsOfPiece (p.streams c) c (p.seen + 1) bytes turns → Completed p there c bytes turns
piece_completed p there c bytes turns agrees went h =
    elim h.1 [
      | inl w ↦ (
        whole_completed (p.streams c) (there c) bytes (items_in turns) (agrees c) w.1,
        subst (λ (z : Streams). (d : ℕ) → Agrees (z d) (streams_after there (brings c bytes) d)) (sym (behind_going p c bytes turns w.0))
            (λ d. agrees_if (c == d) (option_map (λ s. s ++ bytes) (p.streams d)) (p.streams d) (option_map (λ s. s ++ bytes) (there d)) (there d) (agrees_more (p.streams d) (there d) bytes (agrees d)) (agrees d)),
      )
      | inr w ↦
          let same = cut_held (p.streams c) (there c) bytes turns (agrees c) w in
          let cut = cut_completed (there c) bytes turns (subst (λ (s : Option (List ℕ)). AreCutShort s bytes turns) (sym same) w) (last_went turns went) in (
            cut.0,
            subst (λ (z : Streams). (d : ℕ) → Agrees (z d) (streams_after there (brings c bytes) d)) (sym (behind_ended p c bytes turns (some_ended turns (cut_ends (p.streams c) bytes turns w))))
                (λ d.
                of_each d c (λ (b : Bool). Agrees (cond b None (p.streams d)) (cond b (option_map (λ s. s ++ bytes) (there d)) (there d)))
                (λ e. inr (refl, subst (λ (q : ℕ). (stream : List ℕ) × (option_map (λ s. s ++ bytes) (there q) ≡ Some stream) × HasEnded stream) e cut.1))
                (λ _. agrees d)),
          )
    ]

-- an event without turns
only_later : (turns first later : List Turn) → first ≡ [] → turns ≡ first ++ later → turns ≡ later
only_later turns first later none e = e ∙ ap (λ (z : List Turn). z ++ later) none

in_order : (p q : Position) (there : Streams) (events : List FrontEvent) (turns : List Turn) → Leads p events turns q → ((d : ℕ) → Agrees (p.streams d) (there d)) → AllWent turns → IsOrder there (orders_of events) (items_answered turns)
in_order p q there [] turns h agrees went = ap items_answered h.0
in_order p q there (Opened c ∷ events) turns h agrees went =
    let same = only_later turns h.0 h.1 h.2 h.4 in
    let after = λ (d : ℕ). agrees_if (c == d) (Some []) (p.streams d) (Some []) (there d) (inl refl) (agrees d) in
    ([], items_answered h.1, refl, in_order (behind p (Opened c) h.0) q (streams_after there (opens c)) events h.1 h.3 after (subst AllWent same went), ap items_answered same)
in_order p q there (Piece c bytes ∷ events) turns h agrees went =
    let parts : AllWent (h.0 ++ h.1) = subst AllWent h.4 went in
    let piece = piece_completed p there c bytes h.0 agrees (all_left (λ (t : Turn). t.went ≡ true) h.0 h.1 parts) h.2 in (
      items_answered h.0,
      items_answered h.1,
      (items_in h.0, piece.0, items_of_turns c (p.seen + 1) h.0 h.2.0),
      in_order (behind p (Piece c bytes) h.0) q (streams_after there (brings c bytes)) events h.1 h.3 piece.1 (all_right (λ (t : Turn). t.went ≡ true) h.0 h.1 parts),
      ap items_answered h.4 ∙ map-append (λ (t : Turn). (t.c, t.item)) h.0 h.1,
    )
in_order p q there (Closed c ∷ events) turns h agrees went =
    let same = only_later turns h.0 h.1 h.2 h.4 in
    let after = λ (d : ℕ). agrees_if (c == d) None (p.streams d) None (there d) (inl refl) (agrees d) in
    ([], items_answered h.1, refl, in_order (behind p (Closed c) h.0) q (streams_after there (drops c)) events h.1 h.3 after (subst AllWent same went), ap items_answered same)
in_order p q there (End ∷ events) turns h agrees went =
    let same = only_later turns h.0 h.1 h.2 h.4 in
    subst (λ (z : List Turn). IsOrder there (orders_of events) (items_answered z)) (sym same) (in_order (behind p End h.0) q there events h.1 h.3 agrees (subst AllWent same went))

pub order_of_all : (events : List FrontEvent) (turns : List Turn) → AreTurns events turns → AllWent turns → IsOrder (λ _. None) (orders_of events) (items_answered turns)
order_of_all events turns h went = in_order beginning h.0 (λ _. None) events turns h.1 (λ d. inl refl) went
