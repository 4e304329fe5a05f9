-- The order in which the items of many streams are completed, as the pieces of the streams come.
use Rattle.std.specs.Prelude.{◌≡◌, ◌≢◌, ◌==◌, ℕ, List, [], ◌∷◌, ◌++◌, map, Option, Some, None, option_map, if◌then◌else◌}
use Rattle.http_front.specs.Items.{Item, IsSplit}
use Rattle.conn_mux.specs.Flows.{GivesNone}
use Rattle.conn_mux.specs.Streams.{IsLeft}
use Rattle.conn_mux.specs.declared.flow.Flow.{Flow}

-- what a front tells of a connection: it is there, bytes of it came, or it is closed or shut
pub data Event : Type 0 where
  opens : ℕ → Event
  brings : ℕ → List ℕ → Event
  drops : ℕ → Event

-- all bytes that came of each connection since it was opened; none for one that isn't held
abbrev pub Streams : Type 0
Streams = ℕ → Option (List ℕ)

-- the connection's stream after an event
abbrev pub stream_after : Option (List ℕ) → ℕ → Event → Option (List ℕ)
stream_after stream c (opens d) = (if d == c then Some [] else stream)
stream_after stream c (brings d bytes) =
    (if d == c then option_map (λ s. s ++ bytes) stream else stream)
stream_after stream c (drops d) = (if d == c then None else stream)

abbrev pub streams_after : Streams → Event → Streams
streams_after streams event = λ c. stream_after (streams c) c event

-- the items that the bytes complete: those of the stream with them that it hasn't without them
abbrev pub AreCompleted : Option (List ℕ) → List ℕ → List Item → Type 0
AreCompleted None bytes items = items ≡ []
AreCompleted (Some stream) bytes items =
    (before : List Item) × (rest : List ℕ) × (left : List ℕ)
    × IsSplit stream before rest × IsSplit (stream ++ bytes) (before ++ items) left

-- each item with its connection
abbrev pub items_from : ℕ → List Item → List (ℕ × Item)
items_from c items = map (λ item. (c, item)) items

-- the items that the event completes, in the order of their stream
abbrev pub Completes : Streams → Event → List (ℕ × Item) → Type 0
Completes streams (opens c) order = order ≡ []
Completes streams (brings c bytes) order =
    (items : List Item) × AreCompleted (streams c) bytes items × (order ≡ items_from c items)
Completes streams (drops c) order = order ≡ []

-- the items that the events complete, in the order of the events
abbrev pub IsOrder : Streams → List Event → List (ℕ × Item) → Type 0
IsOrder streams [] order = order ≡ []
IsOrder streams (event ∷ events) order =
    (first : List (ℕ × Item)) × (later : List (ℕ × Item)) × Completes streams event first
    × IsOrder (streams_after streams event) events later × (order ≡ first ++ later)

-- the items of one connection
abbrev pub items_of : ℕ → List (ℕ × Item) → List Item
items_of c [] = []
items_of c (taken ∷ order) = (if taken.0 == c then taken.1 ∷ items_of c order else items_of c order)

-- the bytes that the events bring of the connection, which none of them opens or drops
abbrev pub Brings : ℕ → List Event → List ℕ → Type 0
Brings c [] bytes = bytes ≡ []
Brings c (opens d ∷ events) bytes = (d ≢ c) × Brings c events bytes
Brings c (brings d piece ∷ events) bytes =
    (rest : List ℕ) × Brings c events rest × (bytes ≡ (if d == c then piece ++ rest else rest))
Brings c (drops d ∷ events) bytes = (d ≢ c) × Brings c events bytes

-- what is taken between the ends of two pieces is what the later one completes
abbrev pub LeavesCompleted : List ℕ → Type 0
LeavesCompleted stream =
    (bytes : List ℕ) (before items : List Item) (flow left : Flow)
    → IsLeft stream before flow → GivesNone flow
    → IsLeft (stream ++ bytes) (before ++ items) left → GivesNone left
    → AreCompleted (Some stream) bytes items

-- events complete items in one order
abbrev pub HasOneOrder : Type 0
HasOneOrder =
    (streams : Streams) (events : List Event) (a b : List (ℕ × Item))
    → IsOrder streams events a → IsOrder streams events b → a ≡ b

-- more events add items behind the others
abbrev pub KeepsOrder : Type 0
KeepsOrder =
    (streams : Streams) (events more : List Event) (later : List (ℕ × Item))
    → IsOrder streams (events ++ more) later
    → (order : List (ℕ × Item)) × (further : List (ℕ × Item))
    × IsOrder streams events order × (later ≡ order ++ further)

-- the items of a connection are those of its stream, wherever the stream is cut into pieces
abbrev pub HasItemsOfStream : ℕ → Type 0
HasItemsOfStream c =
    (streams : Streams) (events : List Event) (order : List (ℕ × Item)) (stream bytes rest : List ℕ)
    (before : List Item) → IsOrder streams events order → Brings c events bytes
    → streams c ≡ Some stream → IsSplit stream before rest
    → (left : List ℕ) × IsSplit (stream ++ bytes) (before ++ items_of c order) left

-- a connection that isn't held gives nothing
abbrev pub GivesNothing : ℕ → Type 0
GivesNothing c =
    (streams : Streams) (events : List Event) (order : List (ℕ × Item)) (bytes : List ℕ)
    → IsOrder streams events order → Brings c events bytes → streams c ≡ None
    → items_of c order ≡ []
