-- A mux follows the streams of its connections: through each call its flows are what is left of them.
use Rattle.std.specs.Prelude.{◌≡◌, ◌==◌, ℕ, List, [], ◌∷◌, ◌++◌, Option, Some, None, if◌then◌else◌}
use Rattle.http_front.specs.Items.{Item, IsSplit}
use Rattle.conn_mux.specs.Items.{item_of}
use Rattle.conn_mux.specs.Held.{Held, flow_of, Appends, Holds, Takes}
use Rattle.conn_mux.specs.Streams.{IsLeft}
use Rattle.conn_mux.specs.Orders.{opens, brings, drops, stream_after}
use Rattle.conn_mux.specs.declared.incoming.Incoming.{Incoming}
use Rattle.conn_mux.specs.declared.flow.Flow.{Flow}
use Rattle.conn_mux.specs.declared.flow.Flow.TheVariants.{Going}

-- this is left of the stream behind the items that were given; nothing, if the connection isn't held
abbrev pub IsFlowOf : Option (List ℕ) → List Item → Option Flow → Type 0
IsFlowOf None given flow = flow ≡ None
IsFlowOf (Some stream) given flow = (left : Flow) × (flow ≡ Some left) × IsLeft stream given left

-- the mux has what is left of the connection's stream behind the items that it gave
abbrev pub Follows : ℕ → Option (List ℕ) → List Item → Held → Type 0
Follows c stream given held = IsFlowOf stream given (flow_of held c)

-- the items of c behind one that d gave
abbrev pub given_after : List Item → ℕ → ℕ → Item → List Item
given_after given c d item = (if d == c then given ++ item ∷ [] else given)

-- d is opened: its stream is empty, and none of it was given
abbrev pub FollowsOpening : ℕ → Type 0
FollowsOpening c =
    (d : ℕ) (old new : Held) (stream : Option (List ℕ)) (given : List Item)
    → Follows c stream given old → Holds old d (Some (Going [])) new
    → Follows c (stream_after stream c (opens d)) (if d == c then [] else given) new

-- bytes come of d
abbrev pub FollowsPiece : ℕ → Type 0
FollowsPiece c =
    (d : ℕ) (bytes : List ℕ) (old new : Held) (stream : Option (List ℕ)) (given : List Item)
    → Follows c stream given old → Appends old d bytes new
    → Follows c (stream_after stream c (brings d bytes)) given new

-- d is closed or shut
abbrev pub FollowsDrop : ℕ → Type 0
FollowsDrop c =
    (d : ℕ) (old new : Held) (stream : Option (List ℕ)) (given : List Item)
    → Follows c stream given old → Holds old d None new
    → Follows c (stream_after stream c (drops d)) given new

-- an item is taken of d
abbrev pub FollowsTaking : ℕ → Type 0
FollowsTaking c =
    (d : ℕ) (taken : Incoming) (old new : Held) (stream : Option (List ℕ)) (given : List Item)
    → Follows c stream given old → Takes old d (Some taken) new
    → Follows c stream (given_after given c d (item_of taken)) new

-- where nothing is taken, the items that were given are all of the stream
abbrev pub HasGivenAll : ℕ → Type 0
HasGivenAll c =
    (old new : Held) (stream : List ℕ) (given : List Item)
    → Follows c (Some stream) given old → Takes old c None new
    → Follows c (Some stream) given new × ((rest : List ℕ) × IsSplit stream given rest)
