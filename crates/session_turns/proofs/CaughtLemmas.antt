-- A mux is caught up, or amid a piece, behind each call; and behind each item less of a stream is left.
use Rattle.std.proofs.Common.{◌≡◌, ◌≢◌, ◌==◌, inl, inr, ℕ, ◌+◌, ◌<◌, ◌≤◌, Bool, true, false, cond, List, [], ◌∷◌, ◌++◌, length, Option, Some, None, option_map, refl, sym, ◌∙◌, ap, subst, arith, append_assoc}
use Rattle.std.proofs.lemmas.Bool.{false≢true, cases_Bool, eq-eqb}
use Rattle.std.proofs.lemmas.Bool.Decides.{Decides-eqb}
use Rattle.std.proofs.lemmas.List.{append-nil, length-append, length_push}
use Rattle.http_front.specs.Heads.{IsFront, HasNoHead, front_bytes}
use Rattle.http_front.specs.Items.{Item, taken_request, refused, HasNoItem, BeginsRequest}
use Rattle.http_front.specs.declared.request.Request.{Request}
use Rattle.http_front.proofs.FrontLemmas.{ends_long, front_whole}
use Rattle.http_front.proofs.ItemLemmas.{no_item_without_head}
use Rattle.conn_mux.specs.Items.{item_of}
use Rattle.conn_mux.specs.Flows.{flow_with, GivesItem, GivesNone}
use Rattle.conn_mux.specs.Held.{Held, flow_of, KeepsAll, Holds, Appends, GivesAt, Takes}
use Rattle.conn_mux.specs.Streams.{IsLeft}
use Rattle.conn_mux.specs.Orders.{Streams, AreCompleted, streams_after, opens, brings, drops}
use Rattle.conn_mux.specs.declared.incoming.Incoming.{Incoming}
use Rattle.conn_mux.specs.declared.flow.Flow.{Flow}
use Rattle.conn_mux.specs.declared.flow.Flow.TheVariants.{Going, Ended}
use Rattle.conn_mux.proofs.StreamLemmas.{left_more, left_behind, left_none, left_completed}
use Rattle.session_turns.specs.Turns.{BeginWith}
use Rattle.session_turns.specs.Caught.{IsCaughtUp, AreCaughtUp, IsGiving, IsAmid, left_to_take}

-- ---- streams get shorter

longer_behind : (a b : List ℕ) → length b ≤ length (a ++ b)
longer_behind a b = omega (arith, length-append a b)

-- a head has at least two bytes
front_long : (stream head rest : List ℕ) (skipped : _) → IsFront stream skipped head rest → length rest + 2 ≤ length stream
front_long stream head rest skipped x =
    let within : length head ≤ length (front_bytes skipped head) = longer_behind _ head in
    omega (arith, ends_long head x.lawful.ends, within, ap length (front_whole stream skipped head rest x), length-append (front_bytes skipped head) rest)

no_head_yet : HasNoHead []
no_head_yet skipped head rest front = omega (arith, front_long [] head rest skipped front)

-- the stream of a connection that was just opened has no item
pub no_item_yet : HasNoItem []
no_item_yet item behind h = no_item_without_head [] no_head_yet (omega arith) (omega arith) item behind h

pub request_shortens : (stream : List ℕ) (request : Request) (behind : List ℕ) → BeginsRequest stream request behind → length behind < length stream
request_shortens stream request behind h =
    let head = h.head.head in
    omega (arith, front_long stream head.head (request.body ++ behind) head.skipped head.front, length-append request.body behind)

less_behind : (n : ℕ) (behind : List ℕ) (last : Bool) → length behind < n → left_to_take (Some (cond last Ended (Going behind))) < n + 1
less_behind n behind true h = omega arith
less_behind n behind false h = omega (arith, h)

gives_less : (flow left : Flow) (item : Item) → GivesItem flow item left → left_to_take (Some left) < left_to_take (Some flow)
gives_less Ended left item h = absurd h
gives_less (Going rest) left (taken_request request) h =
    subst (λ (f : Flow). left_to_take (Some f) < length rest + 1) (sym h.2) (less_behind (length rest) h.0 request.last (request_shortens rest request h.0 h.1))
gives_less (Going rest) left refused h =
    subst (λ (f : Flow). left_to_take (Some f) < length rest + 1) (sym h.2) (omega arith)

-- a connection that isn't held gives no item
none_taken : (taken : Incoming) → Some taken ≡ None → ⊥
none_taken taken e = absurd (let same : Some taken ≡ None = e in cc)

at_less : (flow left : Option Flow) (taken : Incoming) → GivesAt flow (Some taken) left → left_to_take left < left_to_take flow
at_less None left taken h = absurd (none_taken taken h.0)
at_less (Some flow) left taken h =
    subst (λ (f : Option Flow). left_to_take f < left_to_take (Some flow)) (sym h.2) (gives_less flow h.0 (item_of taken) h.1)

pub takes_less : (old new : Held) (c : ℕ) (taken : Incoming) → Takes old c (Some taken) new → left_to_take (flow_of new c) < left_to_take (flow_of old c)
takes_less old new c taken h = at_less (flow_of old c) (flow_of new c) taken h.gives

-- ---- the connection of a call

giving_begins : (stream : Option (List ℕ)) (bytes : List ℕ) (flow left : Option Flow) → IsCaughtUp stream flow → left ≡ option_map (λ f. flow_with f bytes) flow → IsGiving stream bytes [] left
giving_begins None bytes flow left h e = (refl, e ∙ ap (option_map (λ f. flow_with f bytes)) h)
giving_begins (Some stream) bytes flow left h e =
    let more : IsLeft (stream ++ bytes) (h.0 ++ []) (flow_with h.1 bytes) =
    subst (λ (z : List Item). IsLeft (stream ++ bytes) z (flow_with h.1 bytes)) (sym (append-nil h.0)) (left_more stream bytes h.0 h.1 h.3) in
    (h.0, h.1, flow_with h.1 bytes, h.3, h.4, more, e ∙ ap (option_map (λ f. flow_with f bytes)) h.2)

giving_takes : (stream : Option (List ℕ)) (bytes : List ℕ) (items : List Item) (taken : Incoming) (flow left : Option Flow) → IsGiving stream bytes items flow → GivesAt flow (Some taken) left → IsGiving stream bytes (items ++ item_of taken ∷ []) left
giving_takes None bytes items taken flow left h gives =
    let at : GivesAt None (Some taken) left = subst (λ (f : Option Flow). GivesAt f (Some taken) left) h.1 gives in
    absurd (none_taken taken at.0)
giving_takes (Some stream) bytes items taken flow left h gives =
    let at : GivesAt (Some h.2) (Some taken) left = subst (λ (f : Option Flow). GivesAt f (Some taken) left) h.6 gives in
    let next = left_behind (stream ++ bytes) (h.0 ++ items) h.2 at.0 (item_of taken) h.5 at.1 in
    (h.0, h.1, at.0, h.3, h.4, subst (λ (z : List Item). IsLeft (stream ++ bytes) z at.0) (append_assoc h.0 items (item_of taken ∷ [])) next, at.2)

giving_ends : (stream : Option (List ℕ)) (bytes : List ℕ) (items : List Item) (flow left : Option Flow) → IsGiving stream bytes items flow → GivesAt flow None left
    → AreCompleted stream bytes items × IsCaughtUp (option_map (λ s. s ++ bytes) stream) left
giving_ends None bytes items flow left h gives =
    let at : GivesAt None None left = subst (λ (f : Option Flow). GivesAt f None left) h.1 gives in
    (h.0, at.1)
giving_ends (Some stream) bytes items flow left h gives =
    let at : GivesAt (Some h.2) None left = subst (λ (f : Option Flow). GivesAt f None left) h.6 gives in
    let none : GivesNone h.2 × (at.0 ≡ h.2) = at.1 in (
      left_completed stream bytes h.0 items h.1 h.2 h.3 h.4 h.5 none.0,
      (h.0 ++ items, h.2, at.2 ∙ ap Some none.1, h.5, none.0),
    )

giving_held : (stream : Option (List ℕ)) (bytes : List ℕ) (items : List Item) (item : Item) (flow : Option Flow) → IsGiving stream bytes (items ++ item ∷ []) flow → (s : List ℕ) × (stream ≡ Some s)
giving_held None bytes items item flow h = absurd (omega (arith, ap length h.0, length_push items item))
giving_held (Some stream) bytes items item flow h = (stream, refl)

-- ---- the connection of a call, and each other

-- what is so of the call's connection, and of another, is so of each
pub of_each : (d c : ℕ) (P : Bool → Type 0) → ((c ≡ d) → P true) → (d ≢ c → P false) → P (c == d)
of_each d c P here there =
    elim (cases_Bool (c == d)) [
      | inl e ↦ subst P (sym e) (here ((Decides-eqb c d).0 e))
      | inr e ↦ subst P (sym e) (there (λ same. false≢true (sym e ∙ eq-eqb c d (sym same))))
    ]

caught_as_before : (stream : Option (List ℕ)) (old new : Option Flow) → new ≡ old → IsCaughtUp stream old → IsCaughtUp stream new
caught_as_before stream old new same h = subst (IsCaughtUp stream) (sym same) h

-- a mux that holds no connection
pub caught_nothing : AreCaughtUp (λ _. None) []
caught_nothing c = refl

pub caught_opening : (streams : Streams) (c : ℕ) (old new : Held) → AreCaughtUp streams old → Holds old c (Some (Going [])) new → AreCaughtUp (streams_after streams (opens c)) new
caught_opening streams c old new caught held = λ d.
    of_each d c (λ (b : Bool). IsCaughtUp (cond b (Some []) (streams d)) (flow_of new d))
    (λ e. ([], Going [], ap (flow_of new) (sym e) ∙ held.here, refl, no_item_yet))
    (λ apart. caught_as_before (streams d) (flow_of old d) (flow_of new d) (held.others d apart) (caught d))

pub caught_drop : (streams : Streams) (c : ℕ) (old new : Held) → AreCaughtUp streams old → Holds old c None new → AreCaughtUp (streams_after streams (drops c)) new
caught_drop streams c old new caught held = λ d.
    of_each d c (λ (b : Bool). IsCaughtUp (cond b None (streams d)) (flow_of new d))
    (λ e. ap (flow_of new) (sym e) ∙ held.here)
    (λ apart. caught_as_before (streams d) (flow_of old d) (flow_of new d) (held.others d apart) (caught d))

-- a call that failed left each connection as it was
pub caught_keeps : (streams : Streams) (old new : Held) → AreCaughtUp streams old → KeepsAll old new → AreCaughtUp streams new
caught_keeps streams old new caught kept = λ d. caught_as_before (streams d) (flow_of old d) (flow_of new d) (kept d) (caught d)

-- ---- amid a piece

pub amid_begins : (streams : Streams) (c : ℕ) (bytes : List ℕ) (old new : Held) → AreCaughtUp streams old → Appends old c bytes new → IsAmid streams c bytes [] new
amid_begins streams c bytes old new caught held = record {
  here = giving_begins (streams c) bytes (flow_of old c) (flow_of new c) (caught c) held.here;
  others = λ d apart. caught_as_before (streams d) (flow_of old d) (flow_of new d) (held.others d apart) (caught d);
}

pub amid_takes : (streams : Streams) (c : ℕ) (bytes : List ℕ) (items : List Item) (taken : Incoming) (old new : Held) → IsAmid streams c bytes items old → Takes old c (Some taken) new → IsAmid streams c bytes (items ++ item_of taken ∷ []) new
amid_takes streams c bytes items taken old new amid takes = record {
  here = giving_takes (streams c) bytes items taken (flow_of old c) (flow_of new c) amid.here takes.gives;
  others = λ d apart. caught_as_before (streams d) (flow_of old d) (flow_of new d) (takes.others d apart) (amid.others d apart);
}

-- nothing more can be taken of the connection
pub amid_ends : (streams : Streams) (c : ℕ) (bytes : List ℕ) (items : List Item) (old new : Held) → IsAmid streams c bytes items old → Takes old c None new
    → AreCompleted (streams c) bytes items × AreCaughtUp (streams_after streams (brings c bytes)) new
amid_ends streams c bytes items old new amid takes =
    let here = giving_ends (streams c) bytes items (flow_of old c) (flow_of new c) amid.here takes.gives in (
      here.0,
      λ d.
          of_each d c (λ (b : Bool). IsCaughtUp (cond b (option_map (λ s. s ++ bytes) (streams d)) (streams d)) (flow_of new d))
          (λ e. subst (λ (q : ℕ). IsCaughtUp (option_map (λ s. s ++ bytes) (streams q)) (flow_of new q)) e here.1)
          (λ apart. caught_as_before (streams d) (flow_of old d) (flow_of new d) (takes.others d apart) (amid.others d apart)),
    )

pub amid_drop : (streams : Streams) (c : ℕ) (bytes : List ℕ) (items : List Item) (old new : Held) → IsAmid streams c bytes items old → Holds old c None new → AreCaughtUp (streams_after streams (drops c)) new
amid_drop streams c bytes items old new amid held = λ d.
    of_each d c (λ (b : Bool). IsCaughtUp (cond b None (streams d)) (flow_of new d))
    (λ e. ap (flow_of new) (sym e) ∙ held.here)
    (λ apart. caught_as_before (streams d) (flow_of old d) (flow_of new d) (held.others d apart) (amid.others d apart))

-- a call that failed left each connection as it was
pub amid_keeps : (streams : Streams) (c : ℕ) (bytes : List ℕ) (items : List Item) (old new : Held) → IsAmid streams c bytes items old → KeepsAll old new → IsAmid streams c bytes items new
amid_keeps streams c bytes items old new amid kept = record {
  here = subst (IsGiving (streams c) bytes items) (sym (kept c)) amid.here;
  others = λ d apart. caught_as_before (streams d) (flow_of old d) (flow_of new d) (kept d) (amid.others d apart);
}

pub amid_first : (streams : Streams) (c : ℕ) (stream bytes : List ℕ) (items : List Item) (held : Held) → streams c ≡ Some stream → IsAmid streams c bytes items held → BeginWith stream bytes items
amid_first streams c stream bytes items held is amid =
    let at : IsGiving (Some stream) bytes items (flow_of held c) = subst (λ (s : Option (List ℕ)). IsGiving s bytes items (flow_of held c)) is amid.here in
    let before = left_none stream at.0 at.1 at.3 at.4 in
    (at.0, before.0, at.2, before.1, at.5)

-- a connection of which an item was taken is held
pub amid_held : (streams : Streams) (c : ℕ) (bytes : List ℕ) (items : List Item) (item : Item) (held : Held) → IsAmid streams c bytes (items ++ item ∷ []) held → (stream : List ℕ) × (streams c ≡ Some stream)
amid_held streams c bytes items item held amid = giving_held (streams c) bytes items item (flow_of held c) amid.here
