-- Turns of events, one event further, and of a piece, one item further.
use Rattle.std.proofs.Common.{◌≡◌, ◌⊎◌, inl, inr, ℕ, ◌+◌, ◌||◌, Bool, true, false, cond, List, [], ◌∷◌, ◌++◌, length, Option, Some, None, refl, sym, ◌∙◌, ap, subst, append_assoc}
use Rattle.std.proofs.lemmas.List.{append-nil, map-append, length-map, nil_from_length}
use Rattle.std.proofs.lemmas.List.Folds.{list_any-append}
use Rattle.disk.specs.Beside.{FrontEvent, Piece}
use Rattle.http_front.specs.Items.{Item}
use Rattle.conn_mux.specs.Held.{Held, flow_of}
use Rattle.conn_mux.specs.Orders.{AreCompleted, streams_after, brings, drops}
use Rattle.session_turns.specs.Turns.{Turn, items_in, ends_connection, some_ends, EndsAtLast, AreOf, AreCutShort, AreFirstOfPiece, Position, AreTurnsOf, AreFirstOf, behind, Leads}
use Rattle.session_turns.specs.Caught.{IsGiving, IsAmid}
use Rattle.session_turns.proofs.CaughtLemmas.{amid_first, amid_held}

-- ---- whether some turn ends its connection

pub going_more : (turns : List Turn) (t : Turn) → some_ends turns ≡ false → ends_connection t ≡ false → some_ends (turns ++ t ∷ []) ≡ false
going_more turns t going goes = list_any-append ends_connection turns (t ∷ []) ∙ (λ i. going i || (goes i || false))

pub ended_here : (turns : List Turn) (t : Turn) → some_ends turns ≡ false → ends_connection t ≡ true → EndsAtLast (turns ++ t ∷ [])
ended_here turns t going ended = record { front = turns; last = t; parts = refl; going = going; ended = ended }

pub some_ended : (turns : List Turn) → EndsAtLast turns → some_ends turns ≡ true
some_ended turns h =
    ap some_ends h.parts ∙ list_any-append ends_connection h.front (h.last ∷ []) ∙ (λ i. h.going i || (h.ended i || false))

-- ---- the turns of a piece

pub piece_whole : (p : Position) (c : ℕ) (bytes : List ℕ) (turns : List Turn) → AreOf c (p.seen + 1) turns → some_ends turns ≡ false → AreCompleted (p.streams c) bytes (items_in turns) → AreTurnsOf p (Piece c bytes) turns
piece_whole p c bytes turns of going completed = (of, inl (going, completed))

-- the last of the turns has an item
pub last_item : (turns : List Turn) (h : EndsAtLast turns) → items_in turns ≡ items_in h.front ++ h.last.item ∷ []
last_item turns h = ap items_in h.parts ∙ map-append (λ (t : Turn). t.item) h.front (h.last ∷ [])

pub piece_cut : (p : Position) (c : ℕ) (bytes : List ℕ) (turns : List Turn) (held : Held) → AreOf c (p.seen + 1) turns → EndsAtLast turns → IsAmid p.streams c bytes (items_in turns) held → AreTurnsOf p (Piece c bytes) turns
piece_cut p c bytes turns held of ends amid =
    let with_last = subst (λ (items : List Item). IsAmid p.streams c bytes items held) (last_item turns ends) amid in
    let stream = amid_held p.streams c bytes (items_in ends.front) ends.last.item held with_last in
    let first = amid_first p.streams c stream.0 bytes (items_in turns) held stream.1 amid in
    (of, inr (subst (λ (s : Option (List ℕ)). AreCutShort s bytes turns) (sym stream.1) (ends, first)))

pub no_turns : (turns : List Turn) → items_in turns ≡ [] → turns ≡ []
no_turns turns e = nil_from_length turns (sym (length-map turns (λ (t : Turn). t.item)) ∙ ap length e)

first_of_piece : (p : Position) (c : ℕ) (bytes : List ℕ) (turns : List Turn) (held : Held) (stream : Option (List ℕ)) → p.streams c ≡ stream → AreOf c (p.seen + 1) turns → (some_ends turns ≡ false) ⊎ EndsAtLast turns → IsAmid p.streams c bytes (items_in turns) held
    → AreFirstOfPiece stream c (p.seen + 1) bytes turns
first_of_piece p c bytes turns held None is of ends amid =
    let at : IsGiving None bytes (items_in turns) (flow_of held c) = subst (λ (s : Option (List ℕ)). IsGiving s bytes (items_in turns) (flow_of held c)) is amid.here in
    no_turns turns at.0
first_of_piece p c bytes turns held (Some stream) is of ends amid = (of, amid_first p.streams c stream bytes (items_in turns) held is amid, ends)

pub piece_first : (p : Position) (c : ℕ) (bytes : List ℕ) (turns : List Turn) (held : Held) → AreOf c (p.seen + 1) turns → (some_ends turns ≡ false) ⊎ EndsAtLast turns → IsAmid p.streams c bytes (items_in turns) held → AreFirstOf p (Piece c bytes) turns
piece_first p c bytes turns held of ends amid = first_of_piece p c bytes turns held (p.streams c) refl of ends amid

-- ---- the position behind a piece

pub behind_going : (p : Position) (c : ℕ) (bytes : List ℕ) (turns : List Turn) → some_ends turns ≡ false → (behind p (Piece c bytes) turns).streams ≡ streams_after p.streams (brings c bytes)
behind_going p c bytes turns e =
    ap (λ (b : Bool). cond b (streams_after p.streams (drops c)) (streams_after p.streams (brings c bytes))) e

pub behind_ended : (p : Position) (c : ℕ) (bytes : List ℕ) (turns : List Turn) → some_ends turns ≡ true → (behind p (Piece c bytes) turns).streams ≡ streams_after p.streams (drops c)
behind_ended p c bytes turns e =
    ap (λ (b : Bool). cond b (streams_after p.streams (drops c)) (streams_after p.streams (brings c bytes))) e

-- ---- the turns of one event more

pub leads_more : (p q : Position) (events : List FrontEvent) (event : FrontEvent) (turns first : List Turn) → Leads p events turns q → AreTurnsOf q event first → Leads p (events ++ event ∷ []) (turns ++ first) (behind q event first)
leads_more p q [] event turns first h of = (
  first,
  [],
  subst (λ (z : Position). AreTurnsOf z event first) h.1 of,
  (refl, ap (λ (z : Position). behind z event first) h.1),
  ap (λ (z : List Turn). z ++ first) h.0 ∙ sym (append-nil first),
)
leads_more p q (e ∷ events) event turns first h of = (
  h.0,
  h.1 ++ first,
  h.2,
  leads_more (behind p e h.0) q events event h.1 first h.3 of,
  ap (λ (z : List Turn). z ++ first) h.4 ∙ append_assoc h.0 h.1 first,
)
