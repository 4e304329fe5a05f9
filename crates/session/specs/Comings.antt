-- What items, pieces and events come to, by the answers of the calls.
use Rattle.std.specs.Prelude.{◌≡◌, ◌≢◌, ◌+◌, ℕ, List, [], ◌∷◌, ◌++◌, Option, Some, None, Result, Ok, Err, true, false, length}
use Rattle.api_requests.specs.declared.fault.HandleFault.{HandleFault}
use Rattle.api_requests.specs.declared.fault.HandleFault.TheVariants as handle
use Rattle.conn_mux.specs.Held.{Held, Holds, Takes}
use Rattle.conn_mux.specs.Items.{item_of}
use Rattle.conn_mux.specs.declared.incoming.Incoming.{Incoming}
use Rattle.disk.specs.Beside.{FrontEvent, End}
use Rattle.session.specs.declared.piece.Answered.{Answered}
use Rattle.session.specs.declared.piece.Answered.TheVariants as answer
use Rattle.session_ends.specs.Pieces.{AreAllTurns, AreSomeTurns}
use Rattle.session_ends.specs.declared.fault.SessionFault.{SessionFault}
use Rattle.session_ends.specs.declared.fault.SessionFault.TheVariants as fault
use Rattle.session_turns.specs.Caught.{AreCaughtUp}
use Rattle.session_turns.specs.Turns.{Turn, Position, AreFirstOf, AreTurnsOf, behind, ends_connection}

-- the turn is of the connection after so many events, and its item is taken
pub record TakesTurn (c seen : ℕ) (t : Turn) (old new : Held) : Type 0 where
  pub of_c : t.c ≡ c
  pub of_seen : t.seen ≡ seen
  pub taken : Incoming
  pub item : item_of taken ≡ t.item
  pub takes : Takes old c (Some taken) new

-- the next item of a connection: there is none; it was answered, and the connection goes on, or has
-- ended; it wasn't begun; or it was begun
abbrev pub ItemComesTo : Result Answered HandleFault → ℕ → ℕ → Held → Held → List Turn → List Turn → Type 0
ItemComesTo (Ok answer.Nothing) c seen old new turns further =
    (turns ≡ []) × (further ≡ []) × Takes old c None new
ItemComesTo (Ok answer.GoesOn) c seen old new turns further =
    (t : Turn) × (turns ≡ t ∷ []) × (further ≡ []) × (ends_connection t ≡ false)
    × TakesTurn c seen t old new
ItemComesTo (Ok answer.Ended) c seen old new turns further =
    (t : Turn) × (turns ≡ t ∷ []) × (further ≡ []) × (ends_connection t ≡ true)
    × ((mid : Held) × TakesTurn c seen t old mid × Holds mid c None new)
ItemComesTo (Err handle.Memory) c seen old new turns further = (turns ≡ []) × (further ≡ [])
ItemComesTo (Err handle.Disk) c seen old new turns further =
    (t : Turn) × (turns ≡ []) × (further ≡ t ∷ []) × ((mid : Held) × TakesTurn c seen t old mid)

-- one more turn was begun where the disk failed, and none where memory ran out
abbrev pub IsFurther : HandleFault → List Turn → Type 0
IsFurther handle.Memory further = further ≡ []
IsFurther handle.Disk further = (t : Turn) × (further ≡ t ∷ [])

-- the items of a piece: all have their turns, which were so many; or the first ones have
abbrev pub PieceComesTo : Result ℕ HandleFault → ℕ → ℕ → Held → Held → List Turn → List Turn → Type 0
PieceComesTo (Ok n) c seen old new turns further =
    (n ≡ length turns) × (further ≡ []) × AreAllTurns old c seen turns new
PieceComesTo (Err e) c seen old new turns further =
    IsFurther e further × AreSomeTurns old c seen (turns ++ further)

-- an event, the last of so many, of a front whose position before it is known
abbrev pub EventComesTo : Result ℕ HandleFault → FrontEvent → ℕ → Held → Held → List Turn → List Turn → Type 0
EventComesTo (Ok n) event seen old new turns further = (n ≡ length turns) × (further ≡ [])
    × ((p : Position) → p.seen + 1 ≡ seen → AreCaughtUp p.streams old
    → AreTurnsOf p event turns × AreCaughtUp (behind p event turns).streams new)
EventComesTo (Err e) event seen old new turns further = IsFurther e further
    × ((p : Position) → p.seen + 1 ≡ seen → AreCaughtUp p.streams old
    → AreFirstOf p event (turns ++ further))

-- the events that were taken have one more, which isn't the end
pub record TakesEvent (before now : List FrontEvent) (event : FrontEvent) : Type 0 where
  pub taken : now ≡ before ++ event ∷ []
  pub going : event ≢ End

-- the next event of a front: it is the end; it was served; there was none; or it was served in part
abbrev pub NextComesTo : Result (Option ℕ) SessionFault → List FrontEvent → List FrontEvent → Held → Held
    → List Turn → List Turn → Type 0
NextComesTo (Ok None) before now old new turns further =
    (now ≡ before ++ End ∷ []) × (turns ≡ []) × (further ≡ [])
NextComesTo (Ok (Some n)) before now old new turns further = (event : FrontEvent)
    × TakesEvent before now event × EventComesTo (Ok n) event (length now) old new turns further
NextComesTo (Err fault.Front) before now old new turns further =
    (now ≡ before) × (turns ≡ []) × (further ≡ [])
NextComesTo (Err fault.Memory) before now old new turns further = (event : FrontEvent)
    × TakesEvent before now event × EventComesTo (Err handle.Memory) event (length now) old new turns further
NextComesTo (Err fault.Disk) before now old new turns further = (event : FrontEvent)
    × TakesEvent before now event × EventComesTo (Err handle.Disk) event (length now) old new turns further
NextComesTo (Err fault.Spent) before now old new turns further = ⊥
