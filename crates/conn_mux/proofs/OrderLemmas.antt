-- Events complete items in one order, and of each connection those of its stream.
use Rattle.std.proofs.Common.{◌≡◌, ◌≢◌, ◌==◌, inl, inr, ℕ, Bool, true, false, cond, List, [], ◌∷◌, ◌++◌, Option, Some, None, option_map, refl, sym, ◌∙◌, ap, subst, append_assoc}
use Rattle.std.proofs.lemmas.List.{append-nil}
use Rattle.std.proofs.lemmas.Bool.{cases_Bool}
use Rattle.std.proofs.lemmas.Bool.Decides.{Decides-eqb}
use Rattle.http_front.specs.Items.{Item, IsSplit}
use Rattle.http_front.proofs.ItemLemmas.{splits_once}
use Rattle.conn_mux.specs.Orders.{Event, opens, brings, drops, Streams, streams_after, AreCompleted, items_from, Completes, IsOrder, items_of, Brings}

-- ---- one order

same_tail : (a b x y : List Item) → a ≡ b → a ++ x ≡ b ++ y → x ≡ y
same_tail [] [] x y e h = h
same_tail [] (j ∷ b) x y e h = absurd (let same : [] ≡ j ∷ b = e in cc)
same_tail (i ∷ a) [] x y e h = absurd (let same : [] ≡ i ∷ a = sym e in cc)
same_tail (i ∷ a) (j ∷ b) x y e h =
    let same : i ∷ a ≡ j ∷ b = e in
    let whole : i ∷ (a ++ x) ≡ j ∷ (b ++ y) = h in
    same_tail a b x y (cc) (cc)

completed_once : (stream : Option (List ℕ)) (bytes : List ℕ) (a b : List Item) → AreCompleted stream bytes a → AreCompleted stream bytes b → a ≡ b
completed_once None bytes a b h k = h ∙ sym k
completed_once (Some stream) bytes a b h k =
    same_tail h.0 k.0 a b (splits_once stream h.0 k.0 h.1 k.1 h.3 k.3).0 (splits_once (stream ++ bytes) (h.0 ++ a) (k.0 ++ b) h.2 k.2 h.4 k.4).0

completes_once : (streams : Streams) (event : Event) (a b : List (ℕ × Item)) → Completes streams event a → Completes streams event b → a ≡ b
completes_once streams (opens c) a b h k = h ∙ sym k
completes_once streams (brings c bytes) a b h k = h.2 ∙ ap (items_from c) (completed_once (streams c) bytes h.0 k.0 h.1 k.1) ∙ sym k.2
completes_once streams (drops c) a b h k = h ∙ sym k

pub one_order : (streams : Streams) (events : List Event) (a b : List (ℕ × Item)) → IsOrder streams events a → IsOrder streams events b → a ≡ b
one_order streams [] a b h k = h ∙ sym k
one_order streams (event ∷ events) a b h k =
    let first : h.0 ≡ k.0 = completes_once streams event h.0 k.0 h.2 k.2 in
    let later : h.1 ≡ k.1 = one_order (streams_after streams event) events h.1 k.1 h.3 k.3 in
    h.4 ∙ (λ i. first i ++ later i) ∙ sym k.4

pub order_kept : (streams : Streams) (events more : List Event) (later : List (ℕ × Item)) → IsOrder streams (events ++ more) later
    → (order : List (ℕ × Item)) × (further : List (ℕ × Item)) × IsOrder streams events order × (later ≡ order ++ further)
order_kept streams [] more later h = ([], later, refl, refl)
order_kept streams (event ∷ events) more later h =
    let rest = order_kept (streams_after streams event) events more h.1 h.3 in
    (h.0 ++ rest.0, rest.1, (h.0, rest.0, h.2, rest.2, refl), h.4 ∙ ap (λ (z : List (ℕ × Item)). h.0 ++ z) rest.3 ∙ sym (append_assoc h.0 rest.0 rest.1))

-- ---- the items of one connection

item_step : (b : Bool) (x : Item) (a c : List Item) → cond b (x ∷ (a ++ c)) (a ++ c) ≡ cond b (x ∷ a) a ++ c
item_step true x a c = refl
item_step false x a c = refl

items_of-append : (c : ℕ) (a b : List (ℕ × Item)) → items_of c (a ++ b) ≡ items_of c a ++ items_of c b
items_of-append c [] b = refl
items_of-append c (x ∷ a) b =
    ap (λ (z : List Item). cond (x.0 == c) (x.1 ∷ z) z) (items_of-append c a b) ∙ item_step (x.0 == c) x.1 (items_of c a) (items_of c b)

items_here : (c d : ℕ) (items : List Item) → (d == c) ≡ true → items_of c (items_from d items) ≡ items
items_here c d [] e = refl
items_here c d (x ∷ items) e =
    (λ i. cond (e i) (x ∷ items_of c (items_from d items)) (items_of c (items_from d items))) ∙ ap (λ (z : List Item). x ∷ z) (items_here c d items e)

items_elsewhere : (c d : ℕ) (items : List Item) → (d == c) ≡ false → items_of c (items_from d items) ≡ []
items_elsewhere c d [] e = refl
items_elsewhere c d (x ∷ items) e =
    (λ i. cond (e i) (x ∷ items_of c (items_from d items)) (items_of c (items_from d items))) ∙ items_elsewhere c d items e

-- ---- the events that bring bytes of one connection

not_same : (d c : ℕ) → d ≢ c → (d == c) ≡ false
not_same d c apart = elim (cases_Bool (d == c)) [ inl e ↦ absurd (apart ((Decides-eqb d c).0 e)) | inr e ↦ e ]

-- the same splitting, of the same stream
same_split : (s t : List ℕ) (a b : List Item) (rest : List ℕ) → s ≡ t → a ≡ b → IsSplit s a rest → IsSplit t b rest
same_split s t a b rest e f h = subst (λ (z : List ℕ). IsSplit z b rest) e (subst (λ (z : List Item). IsSplit s z rest) f h)

-- after an event of another connection
stays : (streams : Streams) (c : ℕ) (b : Bool) (other now : Option (List ℕ)) → b ≡ false → streams c ≡ now → cond b other (streams c) ≡ now
stays streams c b other now e is = ap (λ (z : Bool). cond z other (streams c)) e ∙ is

-- where the first items are none of the connection's
only_later : (c : ℕ) (first later order : List (ℕ × Item)) → items_of c first ≡ [] → order ≡ first ++ later → items_of c order ≡ items_of c later
only_later c first later order none e = ap (items_of c) e ∙ items_of-append c first later ∙ ap (λ (z : List Item). z ++ items_of c later) none

completed_here : (streams : Streams) (c d : ℕ) (stream piece : List ℕ) (items : List Item) → (d == c) ≡ true → streams c ≡ Some stream → AreCompleted (streams d) piece items → AreCompleted (Some stream) piece items
completed_here streams c d stream piece items e is h =
    subst (λ (o : Option (List ℕ)). AreCompleted o piece items) (ap streams ((Decides-eqb d c).0 e) ∙ is) h

-- the bytes complete these items behind those that stood before
behind_before : (stream piece rest : List ℕ) (before items : List Item) → IsSplit stream before rest → AreCompleted (Some stream) piece items → (left : List ℕ) × IsSplit (stream ++ piece) (before ++ items) left
behind_before stream piece rest before items split h =
    let same : h.0 ≡ before = (splits_once stream h.0 before h.1 rest h.3 split).0 in
    (h.2, subst (λ (z : List Item). IsSplit (stream ++ piece) (z ++ items) h.2) same h.4)

pub items_of_stream : (c : ℕ) (streams : Streams) (events : List Event) (order : List (ℕ × Item)) (stream bytes rest : List ℕ) (before : List Item) → IsOrder streams events order → Brings c events bytes → streams c ≡ Some stream → IsSplit stream before rest
    → (left : List ℕ) × IsSplit (stream ++ bytes) (before ++ items_of c order) left
items_of_stream c streams [] order stream bytes rest before h brought is split = (
  rest,
  same_split stream (stream ++ bytes) before (before ++ items_of c order) rest (sym (append-nil stream) ∙ ap (λ (z : List ℕ). stream ++ z) (sym brought)) (sym (append-nil before) ∙ ap (λ (z : List (ℕ × Item)). before ++ items_of c z) (sym h)) split,
)
items_of_stream c streams (opens d ∷ events) order stream bytes rest before h brought is split =
    let other = not_same d c brought.0 in
    let later = items_of_stream c (streams_after streams (opens d)) events h.1 stream bytes rest before h.3 brought.1 (stays streams c (d == c) (Some []) (Some stream) other is) split in
    (later.0, subst (λ (z : List Item). IsSplit (stream ++ bytes) (before ++ z) later.0) (sym (only_later c h.0 h.1 order (ap (items_of c) h.2) h.4)) later.1)
items_of_stream c streams (drops d ∷ events) order stream bytes rest before h brought is split =
    let other = not_same d c brought.0 in
    let later = items_of_stream c (streams_after streams (drops d)) events h.1 stream bytes rest before h.3 brought.1 (stays streams c (d == c) None (Some stream) other is) split in
    (later.0, subst (λ (z : List Item). IsSplit (stream ++ bytes) (before ++ z) later.0) (sym (only_later c h.0 h.1 order (ap (items_of c) h.2) h.4)) later.1)
items_of_stream c streams (brings d piece ∷ events) order stream bytes rest before h brought is split =
    let items = h.2.0 in
    let after = streams_after streams (brings d piece) in
    elim (cases_Bool (d == c)) [
      | inl here ↦
          let done = behind_before stream piece rest before items split (completed_here streams c d stream piece items here is h.2.1) in
          let grown : after c ≡ Some (stream ++ piece) = ap (λ (z : Bool). cond z (option_map (λ s. s ++ piece) (streams c)) (streams c)) here ∙ ap (option_map (λ s. s ++ piece)) is in
          let later = items_of_stream c after events h.1 (stream ++ piece) brought.0 done.0 (before ++ items) h.3 brought.1 grown done.1 in
          let whole : (stream ++ piece) ++ brought.0 ≡ stream ++ bytes = append_assoc stream piece brought.0 ∙ ap (λ (z : List ℕ). stream ++ z) (sym (brought.2 ∙ ap (λ (z : Bool). cond z (piece ++ brought.0) brought.0) here)) in
          let mine : items_of c order ≡ items ++ items_of c h.1 = ap (items_of c) h.4 ∙ items_of-append c h.0 h.1 ∙ ap (λ (z : List Item). z ++ items_of c h.1) (ap (items_of c) h.2.2 ∙ items_here c d items here) in
          let all : (before ++ items) ++ items_of c h.1 ≡ before ++ items_of c order = append_assoc before items (items_of c h.1) ∙ ap (λ (z : List Item). before ++ z) (sym mine) in
          (later.0, same_split _ _ _ _ later.0 whole all later.1)
      | inr there ↦
          let later = items_of_stream c after events h.1 stream brought.0 rest before h.3 brought.1 (stays streams c (d == c) (option_map (λ s. s ++ piece) (streams c)) (Some stream) there is) split in
          let whole : stream ++ brought.0 ≡ stream ++ bytes = ap (λ (z : List ℕ). stream ++ z) (sym (brought.2 ∙ ap (λ (z : Bool). cond z (piece ++ brought.0) brought.0) there)) in
          let mine : items_of c order ≡ items_of c h.1 = only_later c h.0 h.1 order (ap (items_of c) h.2.2 ∙ items_elsewhere c d items there) h.4 in
          (later.0, same_split _ _ _ _ later.0 whole (ap (λ (z : List Item). before ++ z) (sym mine)) later.1)
    ]

none_completed : (streams : Streams) (c d : ℕ) (piece : List ℕ) (items : List Item) → (d == c) ≡ true → streams c ≡ None → AreCompleted (streams d) piece items → items ≡ []
none_completed streams c d piece items e is h =
    subst (λ (o : Option (List ℕ)). AreCompleted o piece items) (ap streams ((Decides-eqb d c).0 e) ∙ is) h

none_grown : (b : Bool) (piece : List ℕ) (stream : Option (List ℕ)) → stream ≡ None → cond b (option_map (λ s. s ++ piece) stream) stream ≡ None
none_grown true piece stream e = ap (option_map (λ s. s ++ piece)) e
none_grown false piece stream e = e

none_first : (streams : Streams) (c d : ℕ) (piece : List ℕ) (items : List Item) → streams c ≡ None → AreCompleted (streams d) piece items → items_of c (items_from d items) ≡ []
none_first streams c d piece items is h =
    elim (cases_Bool (d == c)) [
      | inl here ↦ items_here c d items here ∙ none_completed streams c d piece items here is h
      | inr there ↦ items_elsewhere c d items there
    ]

pub nothing_given : (c : ℕ) (streams : Streams) (events : List Event) (order : List (ℕ × Item)) (bytes : List ℕ) → IsOrder streams events order → Brings c events bytes → streams c ≡ None → items_of c order ≡ []
nothing_given c streams [] order bytes h brought is = ap (items_of c) h
nothing_given c streams (opens d ∷ events) order bytes h brought is =
    only_later c h.0 h.1 order (ap (items_of c) h.2) h.4 ∙ nothing_given c (streams_after streams (opens d)) events h.1 bytes h.3 brought.1 (stays streams c (d == c) (Some []) None (not_same d c brought.0) is)
nothing_given c streams (drops d ∷ events) order bytes h brought is =
    only_later c h.0 h.1 order (ap (items_of c) h.2) h.4 ∙ nothing_given c (streams_after streams (drops d)) events h.1 bytes h.3 brought.1 (stays streams c (d == c) None None (not_same d c brought.0) is)
nothing_given c streams (brings d piece ∷ events) order bytes h brought is =
    only_later c h.0 h.1 order (ap (items_of c) h.2.2 ∙ none_first streams c d piece h.2.0 is h.2.1) h.4
    ∙ nothing_given c (streams_after streams (brings d piece)) events h.1 brought.0 h.3 brought.1 (none_grown (d == c) piece (streams c) is)
