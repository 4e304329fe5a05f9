-- A mux follows the streams of its connections through each call.
use Rattle.std.proofs.Common.{◌≡◌, ◌≢◌, ◌==◌, inl, inr, ℕ, Bool, true, false, cond, List, [], ◌∷◌, ◌++◌, Option, Some, None, option_map, refl, sym, ◌∙◌, ap, subst}
use Rattle.std.proofs.lemmas.Bool.{false≢true, cases_Bool, eq-eqb}
use Rattle.std.proofs.lemmas.Bool.Decides.{Decides-eqb}
use Rattle.http_front.specs.Items.{Item, IsSplit}
use Rattle.conn_mux.specs.Items.{item_of}
use Rattle.conn_mux.specs.Flows.{flow_with, GivesNone}
use Rattle.conn_mux.specs.Held.{Held, flow_of, KeepsOthers, Appends, Holds, GivesAt, Takes}
use Rattle.conn_mux.specs.Orders.{opens, brings, drops, stream_after}
use Rattle.conn_mux.specs.Follows.{IsFlowOf, Follows, given_after}
use Rattle.conn_mux.specs.declared.incoming.Incoming.{Incoming}
use Rattle.conn_mux.specs.declared.flow.Flow.{Flow}
use Rattle.conn_mux.specs.declared.flow.Flow.TheVariants.{Going}
use Rattle.conn_mux.proofs.StreamLemmas.{left_more, left_behind, left_none}

-- ---- one connection

flow_more : (stream : Option (List ℕ)) (bytes : List ℕ) (given : List Item) (flow : Option Flow) → IsFlowOf stream given flow → IsFlowOf (option_map (λ s. s ++ bytes) stream) given (option_map (λ f. flow_with f bytes) flow)
flow_more None bytes given flow h = ap (option_map (λ f. flow_with f bytes)) h
flow_more (Some stream) bytes given flow h = (flow_with h.0 bytes, ap (option_map (λ f. flow_with f bytes)) h.1, left_more stream bytes given h.0 h.2)

-- a connection that isn't held gives no item
none_taken : (taken : Incoming) → Some taken ≡ None → ⊥
none_taken taken e = absurd (let same : Some taken ≡ None = e in cc)

flow_taken : (stream : Option (List ℕ)) (given : List Item) (flow left : Option Flow) (taken : Incoming) → IsFlowOf stream given flow → GivesAt flow (Some taken) left → IsFlowOf stream (given ++ item_of taken ∷ []) left
flow_taken None given flow left taken h gives =
    let at : GivesAt None (Some taken) left = subst (λ (f : Option Flow). GivesAt f (Some taken) left) h gives in
    absurd (none_taken taken at.0)
flow_taken (Some stream) given flow left taken h gives =
    let at : GivesAt (Some h.0) (Some taken) left = subst (λ (f : Option Flow). GivesAt f (Some taken) left) h.1 gives in
    (at.0, at.2, left_behind stream given h.0 at.0 (item_of taken) h.2 at.1)

flow_all : (stream : List ℕ) (given : List Item) (flow left : Option Flow) → IsFlowOf (Some stream) given flow → GivesAt flow None left → IsFlowOf (Some stream) given left × ((rest : List ℕ) × IsSplit stream given rest)
flow_all stream given flow left h gives =
    let at : GivesAt (Some h.0) None left = subst (λ (f : Option Flow). GivesAt f None left) h.1 gives in
    let none : GivesNone h.0 × (at.0 ≡ h.0) = at.1 in
    ((h.0, at.2 ∙ ap Some none.1, h.2), left_none stream given h.0 h.2 none.0)

-- ---- the connection of a call, and another one

apart : (c d : ℕ) → (d == c) ≡ false → c ≢ d
apart c d there = λ e. false≢true (sym there ∙ eq-eqb d c (sym e))

-- what is so of the call's connection, and of another, is so of each
of_each : (c d : ℕ) (P : Bool → Type 0) → ((d ≡ c) → P true) → (c ≢ d → P false) → P (d == c)
of_each c d P here there =
    elim (cases_Bool (d == c)) [
      | inl e ↦ subst P (sym e) (here ((Decides-eqb d c).0 e))
      | inr e ↦ subst P (sym e) (there (apart c d e))
    ]

other_flow : (c d : ℕ) (old new : Held) (stream : Option (List ℕ)) (given : List Item) → Follows c stream given old → KeepsOthers old d new → c ≢ d → Follows c stream given new
other_flow c d old new stream given h others differs = subst (IsFlowOf stream given) (sym (others c differs)) h

pub follows_opening : (c d : ℕ) (old new : Held) (stream : Option (List ℕ)) (given : List Item) → Follows c stream given old → Holds old d (Some (Going [])) new → Follows c (stream_after stream c (opens d)) (cond (d == c) [] given) new
follows_opening c d old new stream given h held =
    of_each c d (λ (b : Bool). Follows c (cond b (Some []) stream) (cond b [] given) new)
    (λ e. (Going [], ap (flow_of new) (sym e) ∙ held.here, refl))
    (other_flow c d old new stream given h held.others)

pub follows_piece : (c d : ℕ) (bytes : List ℕ) (old new : Held) (stream : Option (List ℕ)) (given : List Item) → Follows c stream given old → Appends old d bytes new → Follows c (stream_after stream c (brings d bytes)) given new
follows_piece c d bytes old new stream given h held =
    of_each c d (λ (b : Bool). Follows c (cond b (option_map (λ s. s ++ bytes) stream) stream) given new)
    (λ e.
    let same : flow_of new c ≡ option_map (λ f. flow_with f bytes) (flow_of old c) = subst (λ (q : ℕ). flow_of new q ≡ option_map (λ f. flow_with f bytes) (flow_of old q)) e held.here in
    subst (IsFlowOf (option_map (λ s. s ++ bytes) stream) given) (sym same) (flow_more stream bytes given (flow_of old c) h))
    (other_flow c d old new stream given h held.others)

pub follows_drop : (c d : ℕ) (old new : Held) (stream : Option (List ℕ)) (given : List Item) → Follows c stream given old → Holds old d None new → Follows c (stream_after stream c (drops d)) given new
follows_drop c d old new stream given h held =
    of_each c d (λ (b : Bool). Follows c (cond b None stream) given new)
    (λ e. ap (flow_of new) (sym e) ∙ held.here)
    (other_flow c d old new stream given h held.others)

pub follows_taking : (c d : ℕ) (taken : Incoming) (old new : Held) (stream : Option (List ℕ)) (given : List Item) → Follows c stream given old → Takes old d (Some taken) new → Follows c stream (given_after given c d (item_of taken)) new
follows_taking c d taken old new stream given h takes =
    of_each c d (λ (b : Bool). Follows c stream (cond b (given ++ item_of taken ∷ []) given) new)
    (λ e. flow_taken stream given (flow_of old c) (flow_of new c) taken h (subst (λ (q : ℕ). GivesAt (flow_of old q) (Some taken) (flow_of new q)) e takes.gives))
    (other_flow c d old new stream given h takes.others)

pub has_given_all : (c : ℕ) (old new : Held) (stream : List ℕ) (given : List Item) → Follows c (Some stream) given old → Takes old c None new → Follows c (Some stream) given new × ((rest : List ℕ) × IsSplit stream given rest)
has_given_all c old new stream given h takes = flow_all stream given (flow_of old c) (flow_of new c) h takes.gives
