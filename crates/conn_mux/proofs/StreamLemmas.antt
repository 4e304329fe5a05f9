-- What is left of a stream follows it: when more bytes come, and when an item is taken.
use Rattle.std.proofs.Common.{◌≡◌, inl, inr, ℕ, Bool, true, false, cond, List, [], ◌∷◌, ◌++◌, Some, refl, sym, ◌∙◌, ap, subst}
use Rattle.std.proofs.lemmas.Bool.{false≢true, cases_Bool}
use Rattle.http_front.specs.Items.{Item, HasNoItem, is_final, IsSplit}
use Rattle.http_front.proofs.ItemLemmas.{item_longer}
use Rattle.conn_mux.specs.Flows.{flow_with, GivesItem, GivesNone}
use Rattle.conn_mux.specs.Streams.{IsLeft}
use Rattle.conn_mux.specs.Orders.{AreCompleted}
use Rattle.conn_mux.specs.declared.flow.Flow.{Flow}
use Rattle.conn_mux.specs.declared.flow.Flow.TheVariants.{Going, Ended}

pub left_more : (stream more : List ℕ) (items : List Item) (flow : Flow) → IsLeft stream items flow → IsLeft (stream ++ more) items (flow_with flow more)
left_more stream more [] flow h = ap (λ (f : Flow). flow_with f more) h
left_more stream more (item ∷ items) flow h = (
  h.0 ++ more,
  item_longer stream more item h.0 h.1,
  (λ final. ((h.2 final).0, ap (λ (f : Flow). flow_with f more) (h.2 final).1)),
  (λ goes. left_more h.0 more items flow (h.3 goes)),
)

-- a flow that ended gives no item
ended_gives : (flow left : Flow) (item : Item) → flow ≡ Ended → GivesItem flow item left → ⊥
ended_gives (Going rest) left item e h = absurd (let same : Going rest ≡ Ended = e in cc)
ended_gives Ended left item e h = h

first_left : (item : Item) (behind : List ℕ) (left : Flow) (b : Bool) → is_final item ≡ b → left ≡ cond b Ended (Going behind) → (b ≡ true → left ≡ Ended) × (b ≡ false → left ≡ Going behind)
first_left item behind left true is e = ((λ _. e), (λ f. absurd (false≢true (sym f))))
first_left item behind left false is e = ((λ f. absurd (false≢true f)), (λ _. e))

at_going : (stream : List ℕ) (flow left : Flow) (item : Item) → flow ≡ Going stream → GivesItem flow item left → GivesItem (Going stream) item left
at_going stream flow left item e h = subst (λ (f : Flow). GivesItem f item left) e h

pub left_behind : (stream : List ℕ) (items : List Item) (flow left : Flow) (item : Item) → IsLeft stream items flow → GivesItem flow item left → IsLeft stream (items ++ item ∷ []) left
left_behind stream [] flow left item h gives =
    let here = at_going stream flow left item h gives in
    let parts = first_left item here.0 left (is_final item) refl here.2 in
    (here.0, here.1, (λ final. (refl, parts.0 final)), (λ goes. parts.1 goes))
left_behind stream (first ∷ items) flow left item h gives = (
  h.0,
  h.1,
  (λ final. absurd (ended_gives flow left item (h.2 final).1 gives)),
  (λ goes. left_behind h.0 items flow left item (h.3 goes) gives),
)

none_going : (stream : List ℕ) (flow : Flow) → flow ≡ Going stream → GivesNone flow → HasNoItem stream
none_going stream flow e h = subst (λ (f : Flow). GivesNone f) e h

pub left_none : (stream : List ℕ) (items : List Item) (flow : Flow) → IsLeft stream items flow → GivesNone flow → (rest : List ℕ) × IsSplit stream items rest
left_none stream [] flow h none = (stream, (none_going stream flow h none, refl))
left_none stream (item ∷ items) flow h none =
    elim (cases_Bool (is_final item)) [
      | inl final ↦ (
        h.0,
        (h.0, h.1, (λ _. ((h.2 final).0, refl)), (λ goes. absurd (false≢true (sym goes ∙ final)))),
      )
      | inr goes ↦
          let later = left_none h.0 items flow (h.3 goes) none in
          (later.0, (h.0, h.1, (λ final. absurd (false≢true (sym goes ∙ final))), (λ _. later.1)))
    ]

pub left_completed : (stream bytes : List ℕ) (before items : List Item) (flow left : Flow) → IsLeft stream before flow → GivesNone flow → IsLeft (stream ++ bytes) (before ++ items) left → GivesNone left → AreCompleted (Some stream) bytes items
left_completed stream bytes before items flow left h none k done =
    let first = left_none stream before flow h none in
    let all = left_none (stream ++ bytes) (before ++ items) left k done in
    (before, first.0, all.0, first.1, all.1)
