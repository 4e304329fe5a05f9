-- How a mux gives the items of a piece, and which turns they have.
use Rattle.std.specs.Prelude.{◌≡◌, ◌⊎◌, ◌≤◌, ℕ, List, ◌++◌, false, None}
use Rattle.conn_mux.specs.Held.{Held, flow_of, Holds, KeepsOthers, Takes}
use Rattle.conn_mux.specs.Orders.{Streams}
use Rattle.http_front.specs.Items.{Item}
use Rattle.session_turns.specs.Caught.{IsAmid}
use Rattle.session_turns.specs.Turns.{Turn, AreOf, EndsAtLast, items_in, some_ends}

-- the mux gave these items of the connection, and all others are as before
pub record GaveItems (old : Held) (c : ℕ) (items : List Item) (new : Held) : Type 0 where
  pub amid : (streams : Streams) (bytes : List ℕ) (before : List Item)
      → IsAmid streams c bytes before old → IsAmid streams c bytes (before ++ items) new
  pub others : KeepsOthers old c new

-- the connection gives no more, and none of its turns ended it
abbrev pub GaveAll : Held → ℕ → List Turn → Held → Type 0
GaveAll old c turns new = (some_ends turns ≡ false)
    × ((mid : Held) × GaveItems old c (items_in turns) mid × Takes mid c None new)

-- the last turn ended the connection, and it isn't held
abbrev pub GaveLast : Held → ℕ → List Turn → Held → Type 0
GaveLast old c turns new = EndsAtLast turns
    × ((mid : Held) × GaveItems old c (items_in turns) mid × Holds mid c None new)

-- all turns of a piece of the connection, after so many events
abbrev pub AreAllTurns : Held → ℕ → ℕ → List Turn → Held → Type 0
AreAllTurns old c seen turns new =
    AreOf c seen turns × (GaveAll old c turns new ⊎ GaveLast old c turns new)

-- the first turns of such a piece
abbrev pub AreSomeTurns : Held → ℕ → ℕ → List Turn → Type 0
AreSomeTurns old c seen turns = AreOf c seen turns
    × ((some_ends turns ≡ false) ⊎ EndsAtLast turns)
    × ((mid : Held) × GaveItems old c (items_in turns) mid)

-- connections from this number on aren't held
abbrev pub AreFresh : ℕ → Held → Type 0
AreFresh opened held = (c : ℕ) → opened ≤ c → flow_of held c ≡ None
