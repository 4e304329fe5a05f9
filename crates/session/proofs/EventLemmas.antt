-- What an event comes to, and the next one of a front.
use Rattle.std.proofs.Common.{◌≡◌, ◌↔◌, inl, ℕ, ◌+◌, ◌≤◌, List, [], ◌∷◌, ◌++◌, length, Option, Some, None, Result, Ok, Err, refl, sym, ap, subst}
use Rattle.std.proofs.lemmas.List.{append-nil}
use Rattle.std.proofs.lemmas.List.Elements.{All-nil}
use Rattle.api_requests.specs.declared.fault.HandleFault.{HandleFault}
use Rattle.api_requests.specs.declared.fault.HandleFault.TheVariants as handle
use Rattle.conn_mux.proofs.StreamLemmas.{left_more, left_none}
use Rattle.conn_mux.specs.Flows.{flow_with}
use Rattle.conn_mux.specs.Held.{Held, flow_of, Appends, Holds}
use Rattle.conn_mux.specs.Streams.{IsLeft}
use Rattle.conn_mux.specs.declared.flow.Flow.{Flow}
use Rattle.conn_mux.specs.declared.flow.Flow.TheVariants.{Going}
use Rattle.disk.specs.Beside.{Beside, FrontEvent, Opened, Piece, Closed, End}
use Rattle.disk.specs.Images.{Images}
use Rattle.http_front.specs.Items.{Item}
use Rattle.session.specs.Calls.{Answers, session_fault}
use Rattle.session.specs.Comings.{EventComesTo, NextComesTo, PieceComesTo, TakesEvent}
use Rattle.session_course.proofs.CourseLemmas.{course_idle, course_none, courses_join}
use Rattle.session_course.specs.Courses.{Course, IsPresent}
use Rattle.session_course.specs.Servers.{Server}
use Rattle.session_ends.proofs.PieceLemmas.{turns_of_all, turns_of_some}
use Rattle.session_ends.specs.Pieces.{AreAllTurns, AreSomeTurns}
use Rattle.session_ends.specs.declared.fault.SessionFault.{SessionFault}
use Rattle.session_ends.specs.declared.fault.SessionFault.TheVariants as fault
use Rattle.session_turns.proofs.CaughtLemmas.{caught_drop, caught_opening}
use Rattle.session_turns.specs.Caught.{IsCaughtUp}
use Rattle.session_turns.specs.Turns.{Turn, AreFirstOfPiece}

-- of a piece that wasn't put behind its stream no turn is begun
first_none : (stream : Option (List ℕ)) (c seen : ℕ) (bytes : List ℕ) (flow : Option Flow) → IsCaughtUp stream flow → AreFirstOfPiece stream c seen bytes []
first_none None c seen bytes flow h = refl
first_none (Some stream) c seen bytes flow h =
    let before = left_none stream h.0 h.1 h.3 h.4 in
    let more : IsLeft (stream ++ bytes) (h.0 ++ []) (flow_with h.1 bytes) =
    subst (λ (z : List Item). IsLeft (stream ++ bytes) z (flow_with h.1 bytes)) (sym (append-nil h.0)) (left_more stream bytes h.0 h.1 h.3) in (
      All-nil (λ (x : Turn). (x.c ≡ c) × (x.seen ≡ seen)),
      (h.0, before.0, flow_with h.1 bytes, before.1, more),
      inl refl,
    )

-- what the next event comes to where it isn't the end, from what it comes to
abbrev pub next_of : Result ℕ HandleFault → Result (Option ℕ) SessionFault
next_of (Ok n) = Ok (Some n)
next_of (Err e) = Err (session_fault e)

module _ {W : Type 0} (clock : W → ℕ) (may_leave : W → ℕ → Images → Type 0) (beside : W → Beside) where
  pub event_opened : (s : Server) (w : W) (c seen : ℕ) (had held : Held) → IsPresent clock may_leave s w → Holds had c (Some (Going [])) held
      → Answers clock may_leave beside s s w w (EventComesTo (Ok 0) (Opened c) seen had held)
  event_opened s w c seen had held present holds = record {
    turns = [];
    further = [];
    course = course_none clock may_leave beside s w present;
    are = (refl, refl, λ p at caught. (refl, caught_opening p.streams c had held caught holds));
  }

  pub event_closed : (s : Server) (w : W) (c seen : ℕ) (had held : Held) → IsPresent clock may_leave s w → Holds had c None held
      → Answers clock may_leave beside s s w w (EventComesTo (Ok 0) (Closed c) seen had held)
  event_closed s w c seen had held present holds = record {
    turns = [];
    further = [];
    course = course_none clock may_leave beside s w present;
    are = (refl, refl, λ p at caught. (refl, caught_drop p.streams c had held caught holds));
  }

  pub event_end : (s : Server) (w : W) (seen : ℕ) (held : Held) → IsPresent clock may_leave s w → Answers clock may_leave beside s s w w (EventComesTo (Ok 0) End seen held held)
  event_end s w seen held present = record {
    turns = [];
    further = [];
    course = course_none clock may_leave beside s w present;
    are = (refl, refl, λ p at caught. (refl, caught));
  }

  pub opened_unbegun : (s : Server) (w : W) (c seen : ℕ) (had held : Held) → IsPresent clock may_leave s w
      → Answers clock may_leave beside s s w w (EventComesTo (Err handle.Memory) (Opened c) seen had held)
  opened_unbegun s w c seen had held present = record {
    turns = [];
    further = [];
    course = course_none clock may_leave beside s w present;
    are = (refl, λ p at caught. refl);
  }

  pub piece_unbegun : (s : Server) (w : W) (c seen : ℕ) (bytes : List ℕ) (had held : Held) → IsPresent clock may_leave s w
      → Answers clock may_leave beside s s w w (EventComesTo (Err handle.Memory) (Piece c bytes) seen had held)
  piece_unbegun s w c seen bytes had held present = record {
    turns = [];
    further = [];
    course = course_none clock may_leave beside s w present;
    are = (refl, λ p at caught. first_none (p.streams c) c (p.seen + 1) bytes (flow_of had c) (caught c));
  }

  pub event_piece : (result : Result ℕ HandleFault) (a b : Server) (from to : W) (c seen : ℕ) (bytes : List ℕ) (had mid held : Held) → Appends had c bytes mid
      → Answers clock may_leave beside a b from to (PieceComesTo result c seen mid held) → Answers clock may_leave beside a b from to (EventComesTo result (Piece c bytes) seen had held)
  event_piece (Ok n) a b from to c seen bytes had mid held appends k = record {
    turns = k.turns;
    further = k.further;
    course = k.course;
    are = (
      k.are.0,
      k.are.1,
      λ p at caught.
          turns_of_all p c bytes k.turns had mid held caught appends (subst (λ (s : ℕ). AreAllTurns mid c s k.turns held) (sym at) k.are.2),
    );
  }
  event_piece (Err e) a b from to c seen bytes had mid held appends k = record {
    turns = k.turns;
    further = k.further;
    course = k.course;
    are = (
      k.are.0,
      λ p at caught.
          turns_of_some p c bytes (k.turns ++ k.further) had mid caught appends (subst (λ (s : ℕ). AreSomeTurns mid c s (k.turns ++ k.further)) (sym at) k.are.1),
    );
  }

  -- ---- the next event

  module _ (s : Server) (from mid : W) (present : IsPresent clock may_leave s from) (same : clock mid ≡ clock from) (sends : (beside mid).sends ≡ (beside from).sends)
      (kept : (t : ℕ) (images : Images) → t ≤ clock from → may_leave mid t images ↔ may_leave from t images) where
    pub next_end : (held : Held) → (beside mid).taken ≡ (beside from).taken ++ End ∷ [] → Answers clock may_leave beside s s from mid (NextComesTo (Ok None) (beside from).taken (beside mid).taken held held)
    next_end held taken = record {
      turns = [];
      further = [];
      course = course_idle clock may_leave beside s from mid present same sends kept;
      are = (taken, refl, refl);
    }

    pub next_failed : (held : Held) → (beside mid).taken ≡ (beside from).taken → Answers clock may_leave beside s s from mid (NextComesTo (Err fault.Front) (beside from).taken (beside mid).taken held held)
    next_failed held taken = record {
      turns = [];
      further = [];
      course = course_idle clock may_leave beside s from mid present same sends kept;
      are = (taken, refl, refl);
    }

    next_course_of : (b : Server) (to : W) (turns further : List Turn) → Course clock may_leave beside s b mid to turns further → Course clock may_leave beside s b from to turns further
    next_course_of b to turns further k =
        courses_join clock may_leave beside s s b from mid to [] turns further (course_idle clock may_leave beside s from mid present same sends kept) k

    pub next_served : (result : Result ℕ HandleFault) (b : Server) (to : W) (event : FrontEvent) (had held : Held) → TakesEvent (beside from).taken (beside to).taken event
        → Answers clock may_leave beside s b mid to (EventComesTo result event (length (beside to).taken) had held)
        → Answers clock may_leave beside s b from to (NextComesTo (next_of result) (beside from).taken (beside to).taken had held)
    next_served (Ok n) b to event had held takes k = record {
      turns = k.turns;
      further = k.further;
      course = next_course_of b to k.turns k.further k.course;
      are = (event, takes, k.are);
    }
    next_served (Err handle.Memory) b to event had held takes k = record {
      turns = k.turns;
      further = k.further;
      course = next_course_of b to k.turns k.further k.course;
      are = (event, takes, k.are);
    }
    next_served (Err handle.Disk) b to event had held takes k = record {
      turns = k.turns;
      further = k.further;
      course = next_course_of b to k.turns k.further k.course;
      are = (event, takes, k.are);
    }
