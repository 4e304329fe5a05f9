-- The turns of a session: which items of its connections are answered, in which order, and after
-- how many events.
use Rattle.std.specs.Prelude.{◌≡◌, ◌≢◌, ◌⊎◌, ◌+◌, ◌||◌, ℕ, List, [], ◌∷◌, ◌++◌, Bool, true, false, not, map, All, Option, Some, None, if◌then◌else◌}
use Rattle.std.specs.List.{list_any}
use Rattle.conn_mux.specs.Orders.{Streams, AreCompleted, streams_after, opens, brings, drops}
use Rattle.conn_mux.specs.Streams.{IsLeft}
use Rattle.conn_mux.specs.declared.flow.Flow.{Flow}
use Rattle.disk.specs.Beside.{FrontEvent, Opened, Piece, Closed, End}
use Rattle.http_front.specs.Items.{Item, IsSplit, is_final}
use Rattle.http_front.specs.declared.reply.Reply.{Reply}

-- one item of a connection with its reply: how many events had been taken when it was answered,
-- and whether the reply went
pub record Turn : Type 0 where
  pub c : ℕ
  pub seen : ℕ
  pub item : Item
  pub reply : Reply
  pub went : Bool

abbrev pub items_in : List Turn → List Item
items_in turns = map (λ t. t.item) turns

-- the connection gets no further turn: nothing behind the item counts, or its reply didn't go
abbrev pub ends_connection : Turn → Bool
ends_connection t = is_final t.item || not t.went

-- some turn ends its connection
abbrev pub some_ends : List Turn → Bool
some_ends turns = list_any ends_connection turns

-- the last turn ends its connection, and none before it does
pub record EndsAtLast (turns : List Turn) : Type 0 where
  pub front : List Turn
  pub last : Turn
  pub parts : turns ≡ front ++ last ∷ []
  pub going : some_ends front ≡ false
  pub ended : ends_connection last ≡ true

-- ---- the turns of one piece

-- the turns are of this connection, after so many events
abbrev pub AreOf : ℕ → ℕ → List Turn → Type 0
AreOf c seen turns = All (λ t. (t.c ≡ c) × (t.seen ≡ seen)) turns

-- of the stream with these bytes the items stand behind those that it had without them
abbrev pub BeginWith : List ℕ → List ℕ → List Item → Type 0
BeginWith stream bytes items =
    (before : List Item) × (rest : List ℕ) × (left : Flow)
    × IsSplit stream before rest × IsLeft (stream ++ bytes) (before ++ items) left

-- the items are the first ones of the piece, up to one that ends the connection
abbrev pub AreCutShort : Option (List ℕ) → List ℕ → List Turn → Type 0
AreCutShort None bytes turns = ⊥
AreCutShort (Some stream) bytes turns = EndsAtLast turns × BeginWith stream bytes (items_in turns)

-- all items that the piece completes, none of which ends the connection; or the first ones up to
-- one that does
abbrev pub AreTurnsOfPiece : Option (List ℕ) → ℕ → ℕ → List ℕ → List Turn → Type 0
AreTurnsOfPiece stream c seen bytes turns = AreOf c seen turns
    × (((some_ends turns ≡ false) × AreCompleted stream bytes (items_in turns))
    ⊎ AreCutShort stream bytes turns)

-- some of the turns of a piece, from the first on
abbrev pub AreFirstOfPiece : Option (List ℕ) → ℕ → ℕ → List ℕ → List Turn → Type 0
AreFirstOfPiece None c seen bytes turns = turns ≡ []
AreFirstOfPiece (Some stream) c seen bytes turns = AreOf c seen turns
    × BeginWith stream bytes (items_in turns)
    × ((some_ends turns ≡ false) ⊎ EndsAtLast turns)

-- ---- the turns of events

-- where a session stands between two events: what came of each connection that is held, and how
-- many events were taken
pub record Position : Type 0 where
  pub streams : Streams
  pub seen : ℕ

abbrev pub beginning : Position
beginning = record { streams = λ _. None; seen = 0 }

abbrev pub AreTurnsOf : Position → FrontEvent → List Turn → Type 0
AreTurnsOf p (Piece c bytes) turns = AreTurnsOfPiece (p.streams c) c (p.seen + 1) bytes turns
AreTurnsOf p (Opened c) turns = turns ≡ []
AreTurnsOf p (Closed c) turns = turns ≡ []
AreTurnsOf p End turns = turns ≡ []

abbrev pub AreFirstOf : Position → FrontEvent → List Turn → Type 0
AreFirstOf p (Piece c bytes) turns = AreFirstOfPiece (p.streams c) c (p.seen + 1) bytes turns
AreFirstOf p (Opened c) turns = turns ≡ []
AreFirstOf p (Closed c) turns = turns ≡ []
AreFirstOf p End turns = turns ≡ []

-- a connection that is closed isn't held, and neither is one that a turn ended
abbrev pub streams_behind : Streams → FrontEvent → List Turn → Streams
streams_behind streams (Opened c) turns = streams_after streams (opens c)
streams_behind streams (Piece c bytes) turns =
    if some_ends turns then streams_after streams (drops c) else streams_after streams (brings c bytes)
streams_behind streams (Closed c) turns = streams_after streams (drops c)
streams_behind streams End turns = streams

abbrev pub behind : Position → FrontEvent → List Turn → Position
behind p event turns = record { streams = streams_behind p.streams event turns; seen = p.seen + 1 }

-- the events have these turns, and lead from one position to the other
abbrev pub Leads : Position → List FrontEvent → List Turn → Position → Type 0
Leads p [] turns q = (turns ≡ []) × (q ≡ p)
Leads p (event ∷ events) turns q =
    (first : List Turn) × (later : List Turn) × AreTurnsOf p event first
    × Leads (behind p event first) events later q × (turns ≡ first ++ later)

-- ---- sessions

-- the turns of all these events
abbrev pub AreTurns : List FrontEvent → List Turn → Type 0
AreTurns events turns = (q : Position) × Leads beginning events turns q

-- the turns of the events, from the first on: all but perhaps some of the last event
pub record AreFirstTurns (events : List FrontEvent) (turns : List Turn) : Type 0 where
  pub earlier : List FrontEvent
  pub last : FrontEvent
  pub parts : events ≡ earlier ++ last ∷ []
  pub whole : List Turn
  pub first : List Turn
  pub at : Position
  pub leads : Leads beginning earlier whole at
  pub begun : AreFirstOf at last first
  pub turns_are : turns ≡ whole ++ first

-- ---- events

abbrev pub HasNoEnd : List FrontEvent → Type 0
HasNoEnd events = All (λ event. event ≢ End) events
