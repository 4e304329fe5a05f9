-- A mux whose items are all taken, and one that is amid a piece.
use Rattle.std.specs.Prelude.{◌≡◌, ◌≢◌, ◌+◌, ◌<◌, ℕ, List, [], ◌++◌, length, Option, Some, None}
use Rattle.conn_mux.specs.Flows.{GivesNone}
use Rattle.conn_mux.specs.Held.{Held, flow_of, Takes}
use Rattle.conn_mux.specs.Orders.{Streams}
use Rattle.conn_mux.specs.Streams.{IsLeft}
use Rattle.conn_mux.specs.declared.flow.Flow.{Flow}
use Rattle.conn_mux.specs.declared.flow.Flow.TheVariants.{Going, Ended}
use Rattle.conn_mux.specs.declared.incoming.Incoming.{Incoming}
use Rattle.http_front.specs.Items.{Item}

-- all items of the stream were taken, and this is left; a connection that has no stream isn't held
abbrev pub IsCaughtUp : Option (List ℕ) → Option Flow → Type 0
IsCaughtUp None flow = flow ≡ None
IsCaughtUp (Some stream) flow = (given : List Item) × (left : Flow)
    × (flow ≡ Some left) × IsLeft stream given left × GivesNone left

abbrev pub AreCaughtUp : Streams → Held → Type 0
AreCaughtUp streams held = (c : ℕ) → IsCaughtUp (streams c) (flow_of held c)

-- these items were taken of what the bytes complete
abbrev pub IsGiving : Option (List ℕ) → List ℕ → List Item → Option Flow → Type 0
IsGiving None bytes items flow = (items ≡ []) × (flow ≡ None)
IsGiving (Some stream) bytes items flow =
    (before : List Item) × (had : Flow) × (left : Flow) × IsLeft stream before had × GivesNone had
    × IsLeft (stream ++ bytes) (before ++ items) left × (flow ≡ Some left)

-- amid a piece of c, of which these items were taken: all items of the other connections were
pub record IsAmid (streams : Streams) (c : ℕ) (bytes : List ℕ) (items : List Item)
    (held : Held) : Type 0 where
  pub here : IsGiving (streams c) bytes items (flow_of held c)
  pub others : (d : ℕ) → d ≢ c → IsCaughtUp (streams d) (flow_of held d)

-- how much can still be taken: nothing of a connection that isn't held or has ended
abbrev pub left_to_take : Option Flow → ℕ
left_to_take None = 0
left_to_take (Some Ended) = 0
left_to_take (Some (Going rest)) = length rest + 1

-- behind each item there is less
abbrev pub TakesLess : Type 0
TakesLess = (old new : Held) (c : ℕ) (taken : Incoming) → Takes old c (Some taken) new
    → left_to_take (flow_of new c) < left_to_take (flow_of old c)
