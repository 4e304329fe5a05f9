-- The items of a piece: one more turn, and how they end.
use Rattle.std.proofs.Common.{◌≡◌, ◌⊎◌, inl, inr, ℕ, ◌+◌, ◌<◌, ◌^◌, Bool, true, false, not, Some, None, List, [], ◌∷◌, ◌++◌, length, Result, Ok, Err, refl, sym, ◌∙◌, ap, subst, arith}
use Rattle.std.proofs.lemmas.Bool.{cases_Bool, false≢true}
use Rattle.std.proofs.lemmas.List.{append-nil, length-append, length_push, map-append}
use Rattle.std.proofs.lemmas.List.Elements.{All-append, All-cons, All-nil}
use Rattle.api_requests.specs.declared.fault.HandleFault.{HandleFault}
use Rattle.api_requests.specs.declared.fault.HandleFault.TheVariants as handle
use Rattle.conn_mux.specs.Held.{Held, Holds, Takes}
use Rattle.conn_mux.specs.Items.{item_of}
use Rattle.conn_mux.specs.declared.incoming.Incoming.{Incoming}
use Rattle.disk.specs.Beside.{Beside}
use Rattle.disk.specs.Images.{Images}
use Rattle.http_front.specs.Items.{Item}
use Rattle.session.specs.Amid.{IsAmidPiece}
use Rattle.session.specs.Calls.{Answers}
use Rattle.session.specs.Comings.{ItemComesTo, PieceComesTo, TakesTurn}
use Rattle.session.specs.declared.piece.Answered.{Answered}
use Rattle.session.specs.declared.piece.Answered.TheVariants as answer
use Rattle.session_course.proofs.CourseLemmas.{course_none, courses_join}
use Rattle.session_course.proofs.SendLemmas.{sent_length}
use Rattle.session_course.specs.Courses.{Course, IsPresent}
use Rattle.session_course.specs.Servers.{Server}
use Rattle.session_ends.proofs.PieceLemmas.{gave_more, gave_none}
use Rattle.session_ends.specs.Pieces.{AreSomeTurns, GaveItems}
use Rattle.session_step.specs.Taken.{IsTurnOf}
use Rattle.session_turns.proofs.TurnLemmas.{ended_here, going_more}
use Rattle.session_turns.specs.Turns.{Turn, AreOf, EndsAtLast, ends_connection, items_in, some_ends}

-- ---- one more turn

of_more : (c seen : ℕ) (turns : List Turn) (t : Turn) → AreOf c seen turns → t.c ≡ c → t.seen ≡ seen → AreOf c seen (turns ++ t ∷ [])
of_more c seen turns t of of_c of_seen =
    All-append (λ (x : Turn). (x.c ≡ c) × (x.seen ≡ seen)) turns (t ∷ []) of
    (All-cons (λ (x : Turn). (x.c ≡ c) × (x.seen ≡ seen)) t [] (of_c, of_seen) (All-nil (λ (x : Turn). (x.c ≡ c) × (x.seen ≡ seen))))

gave_turn : (c seen : ℕ) (had mid new : Held) (turns : List Turn) (t : Turn) → GaveItems had c (items_in turns) mid → TakesTurn c seen t mid new → GaveItems had c (items_in (turns ++ t ∷ [])) new
gave_turn c seen had mid new turns t gave takes =
    let all : items_in turns ++ item_of takes.taken ∷ [] ≡ items_in (turns ++ t ∷ []) =
    ap (λ (i : Item). items_in turns ++ i ∷ []) takes.item ∙ sym (map-append (λ (x : Turn). x.item) turns (t ∷ [])) in
    subst (λ (items : List Item). GaveItems had c items new) all (gave_more had mid new c (items_in turns) takes.taken gave takes.takes)

ends_or_goes : (turns : List Turn) (t : Turn) → some_ends turns ≡ false → (some_ends (turns ++ t ∷ []) ≡ false) ⊎ EndsAtLast (turns ++ t ∷ [])
ends_or_goes turns t going =
    elim (cases_Bool (ends_connection t)) [
      | inl e ↦ inr (ended_here turns t going e)
      | inr e ↦ inl (going_more turns t going e)
    ]

not_true : (b : Bool) → true ≡ not b → b ≡ false
not_true true e = absurd (false≢true (sym e))
not_true false e = refl

not_false : (b : Bool) → false ≡ not b → b ≡ true
not_false true e = refl
not_false false e = absurd (false≢true e)

module _ {W : Type 0} (clock : W → ℕ) (may_leave : W → ℕ → Images → Type 0) (beside : W → Beside) where
  pub count_turns : (a b : Server) (from to : W) (turns further : List Turn) → Course clock may_leave beside a b from to turns further → length (beside to).sends < 2 ^ 64 → length turns < 2 ^ 64
  count_turns a b from to turns further course few =
      let many = sent_length turns course.sends course.sent in
      omega (arith, many, few, ap length course.added, length-append (beside from).sends course.sends)

  -- a course and the next one, whose turns are these
  pub next_course : (a b d : Server) (first second third : W) (xs ys zs more most : List Turn) → Course clock may_leave beside a b first second xs []
      → Course clock may_leave beside b d second third ys more → ys ≡ zs → more ≡ most → Course clock may_leave beside a d first third (xs ++ zs) most
  next_course a b d first second third xs ys zs more most h k same rest =
      subst (λ (p : List Turn × List Turn). Course clock may_leave beside a d first third (xs ++ p.0) p.1) (λ i. (same i, rest i))
      (courses_join clock may_leave beside a b d first second third xs ys more h k)

  -- a course and one without turns
  pub last_course : (a b d : Server) (first second third : W) (xs ys more most : List Turn) → Course clock may_leave beside a b first second xs []
      → Course clock may_leave beside b d second third ys more → ys ≡ [] → more ≡ most → Course clock may_leave beside a d first third xs most
  last_course a b d first second third xs ys more most h k none rest =
      subst (λ (l : List Turn). Course clock may_leave beside a d first third l most) (append-nil xs)
      (next_course a b d first second third xs ys [] more most h k none rest)

  -- ---- one item

  pub item_nothing : (s : Server) (w : W) (c seen : ℕ) (had held : Held) → IsPresent clock may_leave s w → Takes had c None held
      → Answers clock may_leave beside s s w w (ItemComesTo (Ok answer.Nothing) c seen had held)
  item_nothing s w c seen had held present takes = record {
    turns = [];
    further = [];
    course = course_none clock may_leave beside s w present;
    are = (refl, refl, takes);
  }

  pub item_unbegun : (s : Server) (w : W) (c seen : ℕ) (had held : Held) → IsPresent clock may_leave s w
      → Answers clock may_leave beside s s w w (ItemComesTo (Err handle.Memory) c seen had held)
  item_unbegun s w c seen had held present = record {
    turns = [];
    further = [];
    course = course_none clock may_leave beside s w present;
    are = (refl, refl);
  }

  module _ (a b : Server) (from to : W) (c : ℕ) (had mid : Held) (incoming : Incoming) (takes : Takes had c (Some incoming) mid) where
    takes_turn : (t : Turn) → IsTurnOf c (item_of incoming) (beside from) t → TakesTurn c (length (beside from).taken) t had mid
    takes_turn t of = record { of_c = of.of_c; of_seen = of.seen; taken = incoming; item = sym of.of_item; takes = takes }

    pub item_goes_on : (t : Turn) → IsTurnOf c (item_of incoming) (beside from) t → true ≡ not (ends_connection t) → Course clock may_leave beside a b from to (t ∷ []) []
        → Answers clock may_leave beside a b from to (ItemComesTo (Ok answer.GoesOn) c (length (beside from).taken) had mid)
    item_goes_on t of goes course = record {
      turns = t ∷ [];
      further = [];
      course = course;
      are = (t, refl, refl, not_true (ends_connection t) goes, takes_turn t of);
    }

    pub item_ended : (held : Held) (t : Turn) → IsTurnOf c (item_of incoming) (beside from) t → false ≡ not (ends_connection t) → Course clock may_leave beside a b from to (t ∷ []) []
        → Holds mid c None held → Answers clock may_leave beside a b from to (ItemComesTo (Ok answer.Ended) c (length (beside from).taken) had held)
    item_ended held t of ended course shut = record {
      turns = t ∷ [];
      further = [];
      course = course;
      are = (t, refl, refl, not_false (ends_connection t) ended, (mid, takes_turn t of, shut));
    }

    pub item_fault : (e : HandleFault) → (e ≡ handle.Disk → (t : Turn) × IsTurnOf c (item_of incoming) (beside from) t × Course clock may_leave beside a b from to [] (t ∷ []))
        → (e ≡ handle.Memory → Course clock may_leave beside a b from to [] []) → Answers clock may_leave beside a b from to (ItemComesTo (Err e) c (length (beside from).taken) had mid)
    item_fault handle.Disk disk memory =
        let (t, of, course) = disk refl in
        record { turns = []; further = t ∷ []; course = course; are = (t, refl, refl, (mid, takes_turn t of)) }
    item_fault handle.Memory disk memory = record {
      turns = [];
      further = [];
      course = memory refl;
      are = (refl, refl);
    }

  -- the same of what the call answered
  pub item_as : (a b : Server) (from to : W) (r q : Result Answered HandleFault) (c before seen : ℕ) (old new : Held) → r ≡ q → before ≡ seen
      → Answers clock may_leave beside a b from to (ItemComesTo r c before old new) → Answers clock may_leave beside a b from to (ItemComesTo q c seen old new)
  item_as a b from to r q c before seen old new is at k =
      subst (λ (p : Result Answered HandleFault × ℕ). Answers clock may_leave beside a b from to (ItemComesTo p.0 c p.1 old new)) (λ i. (is i, at i)) k

  -- ---- the items of a piece

  pub amid_none : (s : Server) (w : W) (c seen : ℕ) (held : Held) → IsPresent clock may_leave s w → IsAmidPiece clock may_leave beside s s w w c seen held 0 held
  amid_none s w c seen held present = record {
    turns = [];
    course = course_none clock may_leave beside s w present;
    of_c = All-nil (λ (x : Turn). (x.c ≡ c) × (x.seen ≡ seen));
    going = refl;
    gave = gave_none held c;
    count = refl;
  }

  module _ (a b d : Server) (first second third : W) (c seen : ℕ) (had mid new : Held) (n : ℕ)
      (h : IsAmidPiece clock may_leave beside a b first second c seen had n mid) where
    pub amid_more : (m : ℕ) → Answers clock may_leave beside b d second third (ItemComesTo (Ok answer.GoesOn) c seen mid new) → length (beside third).sends < 2 ^ 64
        → (n + 1 < 2 ^ 64 → m ≡ n + 1) → IsAmidPiece clock may_leave beside a d first third c seen had m new
    amid_more m k few sum =
        let (t, same, rest, goes, takes) = k.are in
        let course = next_course a b d first second third h.turns k.turns (t ∷ []) k.further [] h.course k.course same rest in
        let fits = count_turns a d first third (h.turns ++ t ∷ []) [] course few in
        let longer = length_push h.turns t in
        let before = h.count in
        let counted : m ≡ n + 1 = sum (omega (arith, fits, longer, before)) in
        record {
          turns = h.turns ++ t ∷ [];
          course = course;
          of_c = of_more c seen h.turns t h.of_c takes.of_c takes.of_seen;
          going = going_more h.turns t h.going goes;
          gave = gave_turn c seen had mid new h.turns t h.gave takes;
          count = omega (arith, counted, longer, before);
        }

    pub piece_nothing : Answers clock may_leave beside b d second third (ItemComesTo (Ok answer.Nothing) c seen mid new)
        → Answers clock may_leave beside a d first third (PieceComesTo (Ok n) c seen had new)
    piece_nothing k =
        let (none, rest, takes) = k.are in
        record {
          turns = h.turns;
          further = [];
          course = last_course a b d first second third h.turns k.turns k.further [] h.course k.course none rest;
          are = (h.count, refl, (h.of_c, inl (h.going, (mid, h.gave, takes))));
        }

    pub piece_ended : (m : ℕ) → Answers clock may_leave beside b d second third (ItemComesTo (Ok answer.Ended) c seen mid new) → length (beside third).sends < 2 ^ 64
        → (n + 1 < 2 ^ 64 → m ≡ n + 1) → Answers clock may_leave beside a d first third (PieceComesTo (Ok m) c seen had new)
    piece_ended m k few sum =
        let (t, same, rest, ended, gone) = k.are in
        let (left, takes, shut) = gone in
        let course = next_course a b d first second third h.turns k.turns (t ∷ []) k.further [] h.course k.course same rest in
        let fits = count_turns a d first third (h.turns ++ t ∷ []) [] course few in
        let longer = length_push h.turns t in
        let before = h.count in
        let counted : m ≡ n + 1 = sum (omega (arith, fits, longer, before)) in
        let all : m ≡ length (h.turns ++ t ∷ []) = omega (arith, counted, longer, before) in
        record {
          turns = h.turns ++ t ∷ [];
          further = [];
          course = course;
          are = (
            all,
            refl,
            (
              of_more c seen h.turns t h.of_c takes.of_c takes.of_seen,
              inr (ended_here h.turns t h.going ended, (left, gave_turn c seen had mid left h.turns t h.gave takes, shut)),
            ),
          );
        }

    pub piece_fault : (e : HandleFault) → Answers clock may_leave beside b d second third (ItemComesTo (Err e) c seen mid new)
        → Answers clock may_leave beside a d first third (PieceComesTo (Err e) c seen had new)
    piece_fault handle.Memory k =
        let (none, rest) = k.are in
        let some : AreSomeTurns had c seen h.turns = (h.of_c, inl h.going, (mid, h.gave)) in
        record {
          turns = h.turns;
          further = [];
          course = last_course a b d first second third h.turns k.turns k.further [] h.course k.course none rest;
          are = (refl, subst (λ (l : List Turn). AreSomeTurns had c seen l) (sym (append-nil h.turns)) some);
        }
    piece_fault handle.Disk k =
        let (t, none, more, gone) = k.are in
        let (left, takes) = gone in
        record {
          turns = h.turns;
          further = t ∷ [];
          course = last_course a b d first second third h.turns k.turns k.further (t ∷ []) h.course k.course none more;
          are = (
            (t, refl),
            (
              of_more c seen h.turns t h.of_c takes.of_c takes.of_seen,
              ends_or_goes h.turns t h.going,
              (left, gave_turn c seen had mid left h.turns t h.gave takes),
            ),
          );
        }
