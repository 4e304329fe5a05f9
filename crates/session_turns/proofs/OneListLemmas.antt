-- Events have one list of turns, where the same replies went.
use Rattle.std.proofs.Common.{◌≡◌, ◌⊎◌, inl, inr, ℕ, ◌+◌, ◌||◌, Bool, true, false, cond, List, [], ◌∷◌, ◌++◌, length, Option, Some, None, refl, sym, ◌∙◌, ap, subst, arith, append_assoc}
use Rattle.std.specs.Prelude.{not}
use Rattle.std.specs.List.{list_any}
use Rattle.std.proofs.lemmas.Bool.{false≢true, cases_Bool, or_parts}
use Rattle.std.proofs.lemmas.List.{append-nil, append_cancel_left, map-append, length-append, nil_from_length}
use Rattle.std.proofs.lemmas.List.Elements.{All-head, All-tail}
use Rattle.disk.specs.Beside.{FrontEvent, Opened, Piece, Closed, End}
use Rattle.http_front.specs.Items.{Item, HasNoItem, is_final, IsSplit}
use Rattle.http_front.proofs.ItemLemmas.{item_once, splits_once}
use Rattle.conn_mux.specs.Flows.{GivesNone}
use Rattle.conn_mux.specs.Streams.{IsLeft}
use Rattle.conn_mux.specs.Orders.{AreCompleted, streams_after, brings, drops}
use Rattle.conn_mux.specs.declared.flow.Flow.{Flow}
use Rattle.conn_mux.specs.declared.flow.Flow.TheVariants.{Going, Ended}
use Rattle.session_turns.specs.Turns.{Turn, items_in, ends_connection, some_ends, EndsAtLast, AreOf, BeginWith, AreTurnsOfPiece, AreFirstOfPiece, Position, beginning, AreTurnsOf, AreFirstOf, behind, Leads, AreTurns, AreFirstTurns}
use Rattle.session_turns.specs.Laws.{which_went, bare, bare_turns}
use Rattle.session_turns.proofs.TurnLemmas.{no_turns}

-- ---- items that were taken of one stream

-- one of the lists begins with the other
abbrev Meet : List Item → List Item → Type 0
Meet a b = (more : List Item) × ((b ≡ a ++ more) ⊎ (a ≡ b ++ more))

meet_more : (i j : Item) (a b : List Item) → i ≡ j → Meet a b → Meet (i ∷ a) (j ∷ b)
meet_more i j a b same h = (
  h.0,
  elim h.1 [
    | inl e ↦ inl (λ n. (sym same) n ∷ e n)
    | inr e ↦ inr (λ n. same n ∷ e n)
  ],
)

left_meets : (stream : List ℕ) (a b : List Item) (x y : Flow) → IsLeft stream a x → IsLeft stream b y → Meet a b
left_meets stream [] b x y h k = (b, inl refl)
left_meets stream (i ∷ a) [] x y h k = (i ∷ a, inr refl)
left_meets stream (i ∷ a) (j ∷ b) x y h k =
    let same = item_once stream i j h.0 k.0 h.1 k.1 in
    elim (cases_Bool (is_final i)) [
      | inl final ↦
          let right = k.2 (sym (ap is_final same.0) ∙ final) in
          meet_more i j a b same.0 ([], inl (right.0 ∙ sym (h.2 final).0 ∙ sym (append-nil a)))
      | inr goes ↦
          let left : IsLeft k.0 a x = subst (λ (s : List ℕ). IsLeft s a x) same.1 (h.3 goes) in
          meet_more i j a b same.0 (left_meets k.0 a b x y left (k.3 (sym (ap is_final same.0) ∙ goes)))
    ]

left_of_split : (stream : List ℕ) (items : List Item) (rest : List ℕ) → IsSplit stream items rest → (left : Flow) × IsLeft stream items left × GivesNone left
left_of_split stream [] rest h = (Going stream, refl, h.0)
left_of_split stream (i ∷ items) rest h =
    elim (cases_Bool (is_final i)) [
      | inl final ↦ (
        Ended,
        (h.0, h.1, (λ _. ((h.2 final).0, refl)), (λ goes. absurd (false≢true (sym goes ∙ final)))),
        tt,
      )
      | inr goes ↦
          let later = left_of_split h.0 items rest (h.3 goes) in
          (later.0, (h.0, h.1, (λ final. absurd (false≢true (sym goes ∙ final))), (λ _. later.1)), later.2)
    ]

none_going : (stream : List ℕ) (flow : Flow) → flow ≡ Going stream → GivesNone flow → HasNoItem stream
none_going stream flow e h = subst (λ (f : Flow). GivesNone f) e h

rest_empty : (a more : List Item) → a ++ more ≡ [] → more ≡ []
rest_empty a more e = nil_from_length more (omega (arith, ap length e, length-append a more))

-- where no item can be taken, no list of items is longer
nothing_behind : (stream : List ℕ) (a more : List Item) (x y : Flow) → IsLeft stream a x → GivesNone x → IsLeft stream (a ++ more) y → more ≡ []
nothing_behind stream [] [] x y h none k = refl
nothing_behind stream [] (j ∷ more) x y h none k = absurd (none_going stream x h none j k.0 k.1)
nothing_behind stream (i ∷ a) more x y h none k =
    let same = item_once stream i i h.0 k.0 h.1 k.1 in
    elim (cases_Bool (is_final i)) [
      | inl final ↦ rest_empty a more (k.2 final).0
      | inr goes ↦
          nothing_behind h.0 a more x y (h.3 goes) none (subst (λ (s : List ℕ). IsLeft s (a ++ more) y) (sym same.1) (k.3 goes))
    ]

pub completed_begins : (stream bytes : List ℕ) (items : List Item) → AreCompleted (Some stream) bytes items → BeginWith stream bytes items
completed_begins stream bytes items h =
    let all = left_of_split (stream ++ bytes) (h.0 ++ items) h.2 h.4 in
    (h.0, h.1, all.0, h.3, all.1)

meet_behind : (p a b : List Item) → Meet (p ++ a) (p ++ b) → Meet a b
meet_behind p a b h = (
  h.0,
  elim h.1 [
    | inl e ↦ inl (append_cancel_left p b (a ++ h.0) (e ∙ append_assoc p a h.0))
    | inr e ↦ inr (append_cancel_left p a (b ++ h.0) (e ∙ append_assoc p b h.0))
  ],
)

begin_meets : (stream bytes : List ℕ) (a b : List Item) → BeginWith stream bytes a → BeginWith stream bytes b → Meet a b
begin_meets stream bytes a b h k =
    let same : h.0 ≡ k.0 = (splits_once stream h.0 k.0 h.1 k.1 h.3 k.3).0 in
    let right : IsLeft (stream ++ bytes) (h.0 ++ b) k.2 = subst (λ (z : List Item). IsLeft (stream ++ bytes) (z ++ b) k.2) (sym same) k.4 in
    meet_behind h.0 a b (left_meets (stream ++ bytes) (h.0 ++ a) (h.0 ++ b) h.2 k.2 h.4 right)

completed_ends : (stream bytes : List ℕ) (a more : List Item) → AreCompleted (Some stream) bytes a → BeginWith stream bytes (a ++ more) → more ≡ []
completed_ends stream bytes a more h k =
    let same : h.0 ≡ k.0 = (splits_once stream h.0 k.0 h.1 k.1 h.3 k.3).0 in
    let all = left_of_split (stream ++ bytes) (h.0 ++ a) h.2 h.4 in
    let whole : k.0 ++ (a ++ more) ≡ (h.0 ++ a) ++ more = ap (λ (z : List Item). z ++ (a ++ more)) (sym same) ∙ sym (append_assoc h.0 a more) in
    nothing_behind (stream ++ bytes) (h.0 ++ a) more all.0 k.2 all.1 all.2 (subst (λ (z : List Item). IsLeft (stream ++ bytes) z k.2) whole k.4)

-- ---- the turns of a piece, by its items

-- the turns have these items in turn, up to one that ends the connection
abbrev AreUpTo : List Item → List Turn → Type 0
AreUpTo [] turns = turns ≡ []
AreUpTo (item ∷ items) [] = ⊥
AreUpTo (item ∷ items) (t ∷ turns) =
    (t.item ≡ item) × (ends_connection t ≡ true → turns ≡ []) × (ends_connection t ≡ false → AreUpTo items turns)

up_to_whole : (turns : List Turn) → some_ends turns ≡ false → AreUpTo (items_in turns) turns
up_to_whole [] e = refl
up_to_whole (t ∷ turns) e =
    let parts = or_parts (ends_connection t) (some_ends turns) e in
    (refl, (λ ended. absurd (false≢true (sym parts.0 ∙ ended))), (λ _. up_to_whole turns parts.1))

up_to_cut : (front : List Turn) (last : Turn) (more : List Item) → some_ends front ≡ false → ends_connection last ≡ true → AreUpTo (items_in (front ++ last ∷ []) ++ more) (front ++ last ∷ [])
up_to_cut [] last more e ended = (refl, (λ _. refl), (λ goes. absurd (false≢true (sym goes ∙ ended))))
up_to_cut (t ∷ front) last more e ended =
    let parts = or_parts (ends_connection t) (some_ends front) e in
    (refl, (λ is. absurd (false≢true (sym parts.0 ∙ is))), (λ _. up_to_cut front last more parts.1 ended))

-- the turns of a piece of a connection that is held
abbrev OfHeld : List ℕ → List ℕ → List Turn → Type 0
OfHeld stream bytes turns = ((some_ends turns ≡ false) × AreCompleted (Some stream) bytes (items_in turns))
    ⊎ (EndsAtLast turns × BeginWith stream bytes (items_in turns))

held_begins : (stream bytes : List ℕ) (turns : List Turn) → OfHeld stream bytes turns → BeginWith stream bytes (items_in turns)
held_begins stream bytes turns (inl h) = completed_begins stream bytes (items_in turns) h.1
held_begins stream bytes turns (inr h) = h.1

held_up_to : (stream bytes : List ℕ) (turns : List Turn) (more : List Item) → OfHeld stream bytes turns → BeginWith stream bytes (items_in turns ++ more) → AreUpTo (items_in turns ++ more) turns
held_up_to stream bytes turns more (inl h) k =
    let none : more ≡ [] = completed_ends stream bytes (items_in turns) more h.1 k in
    let whole : items_in turns ++ more ≡ items_in turns = ap (λ (z : List Item). items_in turns ++ z) none ∙ append-nil (items_in turns) in
    subst (λ (z : List Item). AreUpTo z turns) (sym whole) (up_to_whole turns h.0)
held_up_to stream bytes turns more (inr h) k =
    subst (λ (z : List Turn). AreUpTo (items_in z ++ more) z) (sym h.0.parts) (up_to_cut h.0.front h.0.last more h.0.going h.0.ended)

up_to_own : (stream bytes : List ℕ) (turns : List Turn) → OfHeld stream bytes turns → AreUpTo (items_in turns) turns
up_to_own stream bytes turns h =
    let same : items_in turns ++ [] ≡ items_in turns = append-nil (items_in turns) in
    let begins = subst (λ (z : List Item). BeginWith stream bytes z) (sym same) (held_begins stream bytes turns h) in
    subst (λ (z : List Item). AreUpTo z turns) same (held_up_to stream bytes turns [] h begins)

up_to_other : (stream bytes : List ℕ) (xs ys : List Turn) (more : List Item) → OfHeld stream bytes xs → OfHeld stream bytes ys → items_in ys ≡ items_in xs ++ more → AreUpTo (items_in ys) xs
up_to_other stream bytes xs ys more h k e =
    let begins = subst (λ (z : List Item). BeginWith stream bytes z) e (held_begins stream bytes ys k) in
    subst (λ (z : List Item). AreUpTo z xs) (sym e) (held_up_to stream bytes xs more h begins)

both_up_to : (stream bytes : List ℕ) (xs ys : List Turn) → OfHeld stream bytes xs → OfHeld stream bytes ys → (all : List Item) × AreUpTo all xs × AreUpTo all ys
both_up_to stream bytes xs ys h k =
    let meet = begin_meets stream bytes (items_in xs) (items_in ys) (held_begins stream bytes xs h) (held_begins stream bytes ys k) in
    elim meet.1 [
      | inl e ↦ (items_in ys, up_to_other stream bytes xs ys meet.0 h k e, up_to_own stream bytes ys k)
      | inr e ↦ (items_in xs, up_to_own stream bytes xs h, up_to_other stream bytes ys xs meet.0 k h e)
    ]

-- ---- the same turns, where the same replies went

no_turns_same : (xs ys : List Turn) (ws vs : List Bool) → xs ≡ [] → ys ≡ [] → which_went xs ++ ws ≡ which_went ys ++ vs → (bare_turns xs ≡ bare_turns ys) × (ws ≡ vs)
no_turns_same xs ys ws vs h k e = (
  ap bare_turns (h ∙ sym k),
  ap (λ (z : List Turn). which_went z ++ ws) (sym h) ∙ e ∙ ap (λ (z : List Turn). which_went z ++ vs) k,
)

bare_same : (x y : Turn) (c seen : ℕ) → (x.c ≡ c) × (x.seen ≡ seen) → (y.c ≡ c) × (y.seen ≡ seen) → x.item ≡ y.item → x.went ≡ y.went → bare x ≡ bare y
bare_same x y c seen h k item went = λ n. ((h.0 ∙ sym k.0) n, ((h.1 ∙ sym k.1) n, (item n, went n)))

ends_same : (x y : Turn) → x.item ≡ y.item → x.went ≡ y.went → ends_connection x ≡ ends_connection y
ends_same x y item went = λ n. is_final (item n) || not (went n)

same_turns : (all : List Item) (xs ys : List Turn) (ws vs : List Bool) (c seen : ℕ) → AreOf c seen xs → AreOf c seen ys → AreUpTo all xs → AreUpTo all ys → which_went xs ++ ws ≡ which_went ys ++ vs → (bare_turns xs ≡ bare_turns ys) × (ws ≡ vs)
same_turns [] xs ys ws vs c seen of too h k e = no_turns_same xs ys ws vs h k e
same_turns (i ∷ all) [] ys ws vs c seen of too h k e = absurd h
same_turns (i ∷ all) (x ∷ xs) [] ws vs c seen of too h k e = absurd k
same_turns (i ∷ all) (x ∷ xs) (y ∷ ys) ws vs c seen of too h k e =
    let whole : x.went ∷ (which_went xs ++ ws) ≡ y.went ∷ (which_went ys ++ vs) = e in
    let went : x.went ≡ y.went = cc in
    let later : which_went xs ++ ws ≡ which_went ys ++ vs = cc in
    let item : x.item ≡ y.item = h.0 ∙ sym k.0 in
    let ends = ends_same x y item went in
    let head = bare_same x y c seen (All-head (λ (t : Turn). (t.c ≡ c) × (t.seen ≡ seen)) x xs of) (All-head (λ (t : Turn). (t.c ≡ c) × (t.seen ≡ seen)) y ys too) item went in
    elim (cases_Bool (ends_connection x)) [
      | inl ended ↦
          let rest = no_turns_same xs ys ws vs (h.1 ended) (k.1 (sym ends ∙ ended)) later in
          ((λ n. head n ∷ rest.0 n), rest.1)
      | inr goes ↦
          let rest = same_turns all xs ys ws vs c seen (All-tail (λ (t : Turn). (t.c ≡ c) × (t.seen ≡ seen)) x xs of) (All-tail (λ (t : Turn). (t.c ≡ c) × (t.seen ≡ seen)) y ys too) (h.2 goes) (k.2 (sym ends ∙ goes)) later in
          ((λ n. head n ∷ rest.0 n), rest.1)
    ]

none_of_piece : (c seen : ℕ) (bytes : List ℕ) (turns : List Turn) → AreTurnsOfPiece None c seen bytes turns → turns ≡ []
none_of_piece c seen bytes turns h = elim h.1 [ inl w ↦ no_turns turns w.1 | inr w ↦ absurd w ]

one_piece : (stream : Option (List ℕ)) (c seen : ℕ) (bytes : List ℕ) (xs ys : List Turn) (ws vs : List Bool) → AreTurnsOfPiece stream c seen bytes xs → AreTurnsOfPiece stream c seen bytes ys → which_went xs ++ ws ≡ which_went ys ++ vs → (bare_turns xs ≡ bare_turns ys) × (ws ≡ vs)
one_piece None c seen bytes xs ys ws vs h k e = no_turns_same xs ys ws vs (none_of_piece c seen bytes xs h) (none_of_piece c seen bytes ys k) e
one_piece (Some stream) c seen bytes xs ys ws vs h k e =
    let both = both_up_to stream bytes xs ys h.1 k.1 in
    same_turns both.0 xs ys ws vs c seen h.0 k.0 both.1 both.2 e

one_event : (p : Position) (event : FrontEvent) (xs ys : List Turn) (ws vs : List Bool) → AreTurnsOf p event xs → AreTurnsOf p event ys → which_went xs ++ ws ≡ which_went ys ++ vs → (bare_turns xs ≡ bare_turns ys) × (ws ≡ vs)
one_event p (Opened c) xs ys ws vs h k e = no_turns_same xs ys ws vs h k e
one_event p (Piece c bytes) xs ys ws vs h k e = one_piece (p.streams c) c (p.seen + 1) bytes xs ys ws vs h k e
one_event p (Closed c) xs ys ws vs h k e = no_turns_same xs ys ws vs h k e
one_event p End xs ys ws vs h k e = no_turns_same xs ys ws vs h k e

-- ---- the same position behind them

ends_of_bare : (turns : List Turn) → some_ends turns ≡ list_any (λ (b : ℕ × (ℕ × (Item × Bool))). is_final b.1.1.0 || not b.1.1.1) (bare_turns turns)
ends_of_bare [] = refl
ends_of_bare (t ∷ turns) = ap (λ (z : Bool). ends_connection t || z) (ends_of_bare turns)

some_ends_same : (xs ys : List Turn) → bare_turns xs ≡ bare_turns ys → some_ends xs ≡ some_ends ys
some_ends_same xs ys e =
    ends_of_bare xs ∙ ap (list_any (λ (b : ℕ × (ℕ × (Item × Bool))). is_final b.1.1.0 || not b.1.1.1)) e ∙ sym (ends_of_bare ys)

behind_same : (p : Position) (event : FrontEvent) (xs ys : List Turn) → bare_turns xs ≡ bare_turns ys → behind p event xs ≡ behind p event ys
behind_same p (Opened c) xs ys e = refl
behind_same p (Piece c bytes) xs ys e =
    let ends = some_ends_same xs ys e in
    λ n. record { streams = cond (ends n) (streams_after p.streams (drops c)) (streams_after p.streams (brings c bytes)); seen = p.seen + 1 }
behind_same p (Closed c) xs ys e = refl
behind_same p End xs ys e = refl

went_parts : (turns a b : List Turn) (ws : List Bool) → turns ≡ a ++ b → which_went turns ++ ws ≡ which_went a ++ (which_went b ++ ws)
went_parts turns a b ws e =
    ap (λ (z : List Turn). which_went z ++ ws) e ∙ ap (λ (z : List Bool). z ++ ws) (map-append (λ (t : Turn). t.went) a b) ∙ append_assoc (which_went a) (which_went b) ws

pub bare_parts : (turns a b : List Turn) → turns ≡ a ++ b → bare_turns turns ≡ bare_turns a ++ bare_turns b
bare_parts turns a b e = ap bare_turns e ∙ map-append bare a b

pub one_leads : (p q r : Position) (events : List FrontEvent) (xs ys : List Turn) (ws vs : List Bool) → Leads p events xs q → Leads p events ys r → which_went xs ++ ws ≡ which_went ys ++ vs
    → (bare_turns xs ≡ bare_turns ys) × (ws ≡ vs) × (q ≡ r)
one_leads p q r [] xs ys ws vs h k e =
    let same = no_turns_same xs ys ws vs h.0 k.0 e in
    (same.0, same.1, h.1 ∙ sym k.1)
one_leads p q r (event ∷ events) xs ys ws vs h k e =
    let first = one_event p event h.0 k.0 (which_went h.1 ++ ws) (which_went k.1 ++ vs) h.2 k.2 (sym (went_parts xs h.0 h.1 ws h.4) ∙ e ∙ went_parts ys k.0 k.1 vs k.4) in
    let same = behind_same p event h.0 k.0 first.0 in
    let later = one_leads (behind p event k.0) q r events h.1 k.1 ws vs (subst (λ (z : Position). Leads z events h.1 q) same h.3) k.3 first.1 in
    (bare_parts xs h.0 h.1 h.4 ∙ (λ n. first.0 n ++ later.0 n) ∙ sym (bare_parts ys k.0 k.1 k.4), later.1, later.2)

pub one_list : (events : List FrontEvent) (xs ys : List Turn) → AreTurns events xs → AreTurns events ys → which_went xs ≡ which_went ys → bare_turns xs ≡ bare_turns ys
one_list events xs ys h k e =
    (one_leads beginning h.0 k.0 events xs ys [] [] h.1 k.1 (ap (λ (z : List Bool). z ++ []) e)).0

-- ---- the first turns are the front of all

meet_head : (i j : Item) (a b : List Item) → Meet (i ∷ a) (j ∷ b) → (i ≡ j) × Meet a b
meet_head i j a b h =
    elim h.1 [
      | inl e ↦
          let whole : j ∷ b ≡ i ∷ (a ++ h.0) = e in
          let head : i ≡ j = cc in
          let tail : b ≡ a ++ h.0 = cc in
          (head, (h.0, inl tail))
      | inr e ↦
          let whole : i ∷ a ≡ j ∷ (b ++ h.0) = e in
          let head : i ≡ j = cc in
          let tail : a ≡ b ++ h.0 = cc in
          (head, (h.0, inr tail))
    ]

front_turns : (xs ys : List Turn) (others : List Bool) (c seen : ℕ) → AreOf c seen xs → AreOf c seen ys → Meet (items_in xs) (items_in ys) → which_went xs ++ others ≡ which_went ys → (more : List Turn) × (bare_turns ys ≡ bare_turns xs ++ bare_turns more)
front_turns [] ys others c seen of too meet e = (ys, refl)
front_turns (x ∷ xs) [] others c seen of too meet e = absurd (let whole : x.went ∷ (which_went xs ++ others) ≡ [] = e in cc)
front_turns (x ∷ xs) (y ∷ ys) others c seen of too meet e =
    let whole : x.went ∷ (which_went xs ++ others) ≡ y.went ∷ which_went ys = e in
    let went : x.went ≡ y.went = cc in
    let later : which_went xs ++ others ≡ which_went ys = cc in
    let parts = meet_head x.item y.item (items_in xs) (items_in ys) meet in
    let head = bare_same x y c seen (All-head (λ (t : Turn). (t.c ≡ c) × (t.seen ≡ seen)) x xs of) (All-head (λ (t : Turn). (t.c ≡ c) × (t.seen ≡ seen)) y ys too) parts.0 went in
    let rest = front_turns xs ys others c seen (All-tail (λ (t : Turn). (t.c ≡ c) × (t.seen ≡ seen)) x xs of) (All-tail (λ (t : Turn). (t.c ≡ c) × (t.seen ≡ seen)) y ys too) parts.1 later in
    (rest.0, (λ n. (sym head) n ∷ rest.1 n))

front_empty : (xs ys : List Turn) → xs ≡ [] → (more : List Turn) × (bare_turns ys ≡ bare_turns xs ++ bare_turns more)
front_empty xs ys h = (ys, ap (λ (z : List Turn). bare_turns z ++ bare_turns ys) (sym h))

front_piece : (stream : Option (List ℕ)) (c seen : ℕ) (bytes : List ℕ) (xs ys : List Turn) (others : List Bool) → AreFirstOfPiece stream c seen bytes xs → AreTurnsOfPiece stream c seen bytes ys → which_went xs ++ others ≡ which_went ys → (more : List Turn) × (bare_turns ys ≡ bare_turns xs ++ bare_turns more)
front_piece None c seen bytes xs ys others h k e = front_empty xs ys h
front_piece (Some stream) c seen bytes xs ys others h k e =
    front_turns xs ys others c seen h.0 k.0 (begin_meets stream bytes (items_in xs) (items_in ys) h.1 (held_begins stream bytes ys k.1)) e

front_event : (p : Position) (event : FrontEvent) (xs ys : List Turn) (others : List Bool) → AreFirstOf p event xs → AreTurnsOf p event ys → which_went xs ++ others ≡ which_went ys → (more : List Turn) × (bare_turns ys ≡ bare_turns xs ++ bare_turns more)
front_event p (Opened c) xs ys others h k e = front_empty xs ys h
front_event p (Piece c bytes) xs ys others h k e = front_piece (p.streams c) c (p.seen + 1) bytes xs ys others h k e
front_event p (Closed c) xs ys others h k e = front_empty xs ys h
front_event p End xs ys others h k e = front_empty xs ys h

leads_split : (p q : Position) (events more : List FrontEvent) (turns : List Turn) → Leads p (events ++ more) turns q
    → (m : Position) × (a : List Turn) × (b : List Turn) × Leads p events a m × Leads m more b q × (turns ≡ a ++ b)
leads_split p q [] more turns h = (p, [], turns, (refl, refl), h, refl)
leads_split p q (event ∷ events) more turns h =
    let rest = leads_split (behind p event h.0) q events more h.1 h.3 in (
      rest.0,
      h.0 ++ rest.1,
      rest.2,
      (h.0, rest.1, h.2, rest.3, refl),
      rest.4,
      h.4 ∙ ap (λ (z : List Turn). h.0 ++ z) rest.5 ∙ sym (append_assoc h.0 rest.1 rest.2),
    )

-- the turns of one event
leads_one : (p q : Position) (event : FrontEvent) (turns : List Turn) → Leads p (event ∷ []) turns q → AreTurnsOf p event turns
leads_one p q event turns h =
    let same : turns ≡ h.0 = h.4 ∙ ap (λ (z : List Turn). h.0 ++ z) h.3.0 ∙ append-nil h.0 in
    subst (λ (z : List Turn). AreTurnsOf p event z) (sym same) h.2

joined : {A : Type 0} (ys xs a b whole first more : List A) → ys ≡ a ++ b → whole ≡ a → b ≡ first ++ more → xs ≡ whole ++ first → ys ≡ xs ++ more
joined ys xs a b whole first more e same f g =
    e ∙ (λ n. (sym same) n ++ f n) ∙ sym (append_assoc whole first more) ∙ ap (λ (z : List _). z ++ more) (sym g)

pub front_of_all : (events : List FrontEvent) (xs ys : List Turn) → AreFirstTurns events xs → AreTurns events ys → (others : List Bool) → which_went ys ≡ which_went xs ++ others → (more : List Turn) × (bare_turns ys ≡ bare_turns xs ++ bare_turns more)
front_of_all events xs ys w k others e =
    let leads : Leads beginning (w.earlier ++ w.last ∷ []) ys k.0 = subst (λ (z : List FrontEvent). Leads beginning z ys k.0) w.parts k.1 in
    let split = leads_split beginning k.0 w.earlier (w.last ∷ []) ys leads in
    let went_all : which_went ys ≡ which_went split.1 ++ which_went split.2 = ap which_went split.5 ∙ map-append (λ (t : Turn). t.went) split.1 split.2 in
    let before = one_leads beginning w.at split.0 w.earlier w.whole split.1 (which_went w.first ++ others) (which_went split.2) w.leads split.3 (sym (went_parts xs w.whole w.first others w.turns_are) ∙ sym e ∙ went_all) in
    let begun : AreFirstOf split.0 w.last w.first = subst (λ (z : Position). AreFirstOf z w.last w.first) before.2 w.begun in
    let front = front_event split.0 w.last w.first split.2 others begun (leads_one split.0 k.0 w.last split.2 split.4) before.1 in (
      front.0,
      joined (bare_turns ys) (bare_turns xs) (bare_turns split.1) (bare_turns split.2) (bare_turns w.whole) (bare_turns w.first) (bare_turns front.0) (bare_parts ys split.1 split.2 split.5) before.0 front.1 (bare_parts xs w.whole w.first w.turns_are),
    )
