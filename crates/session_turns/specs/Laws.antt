-- What follows from the definitions of turns.
use Rattle.std.specs.Prelude.{◌≡◌, ◌++◌, ℕ, List, Bool, true, All, Option, Some, None, map}
use Rattle.std.specs.List.{filter_map}
use Rattle.conn_mux.specs.Orders.{Event, IsOrder, opens, brings, drops}
use Rattle.disk.specs.Beside.{FrontEvent, Opened, Piece, Closed, End}
use Rattle.http_front.specs.Items.{Item}
use Rattle.session_turns.specs.Turns.{Turn, AreTurns, AreFirstTurns}

-- whether each reply went
abbrev pub which_went : List Turn → List Bool
which_went turns = map (λ t. t.went) turns

-- a turn but for its reply
abbrev pub bare : Turn → ℕ × (ℕ × (Item × Bool))
bare t = (t.c, (t.seen, (t.item, t.went)))

abbrev pub bare_turns : List Turn → List (ℕ × (ℕ × (Item × Bool)))
bare_turns turns = map bare turns

-- Events, and for each turn whether its reply went, determine the turns but for their replies,
-- which their steps determine.
abbrev pub HasOneListOfTurns : List FrontEvent → Type 0
HasOneListOfTurns events = (xs ys : List Turn) → AreTurns events xs → AreTurns events ys
    → which_went xs ≡ which_went ys → bare_turns xs ≡ bare_turns ys

-- the first turns are the front of all turns of the events, where the same replies went
abbrev pub AreFrontOfAll : List FrontEvent → Type 0
AreFrontOfAll events = (xs ys : List Turn) → AreFirstTurns events xs → AreTurns events ys
    → (others : List Bool) → which_went ys ≡ which_went xs ++ others
    → (more : List Turn) × (bare_turns ys ≡ bare_turns xs ++ bare_turns more)

-- what an event of a front tells of a stream; the end of the front tells of none
abbrev pub order_of : FrontEvent → Option Event
order_of (Opened c) = Some (opens c)
order_of (Piece c bytes) = Some (brings c bytes)
order_of (Closed c) = Some (drops c)
order_of End = None

abbrev pub orders_of : List FrontEvent → List Event
orders_of events = filter_map order_of events

-- each item with its connection
abbrev pub items_answered : List Turn → List (ℕ × Item)
items_answered turns = map (λ t. (t.c, t.item)) turns

-- where each reply went, the turns are the items in the order in which the pieces complete them
abbrev pub IsOrderOfAll : List FrontEvent → Type 0
IsOrderOfAll events = (turns : List Turn) → AreTurns events turns
    → All (λ t. t.went ≡ true) turns
    → IsOrder (λ _. None) (orders_of events) (items_answered turns)
