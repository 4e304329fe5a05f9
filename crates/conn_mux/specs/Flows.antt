-- What is left of a connection's stream while its items are taken.
use Rattle.std.specs.Prelude.{◌≡◌, ℕ, List, ◌++◌, Bool, false, Option, Some, None, if◌then◌else◌}
use Rattle.http_front.specs.Items.{Item, IsItem, HasNoItem, is_final}
use Rattle.conn_mux.specs.Items.{item_of}
use Rattle.conn_mux.specs.declared.incoming.Incoming.{Incoming}
use Rattle.conn_mux.specs.declared.flow.Flow.{Flow}
use Rattle.conn_mux.specs.declared.flow.Flow.TheVariants.{Going, Ended}

-- with more bytes; none count where an item ended the splitting
abbrev pub flow_with : Flow → List ℕ → Flow
flow_with (Going rest) bytes = Going (rest ++ bytes)
flow_with Ended bytes = Ended

-- whether nothing behind what is taken counts
abbrev pub ends_flow : Option Incoming → Bool
ends_flow None = false
ends_flow (Some taken) = is_final (item_of taken)

-- what an item leaves, with this rest behind it
abbrev pub flow_behind : Item → List ℕ → Flow
flow_behind item behind = (if is_final item then Ended else Going behind)

-- what is taken is the first item of the rest, and this is left
abbrev pub GivesItem : Flow → Item → Flow → Type 0
GivesItem (Going rest) item left =
    (behind : List ℕ) × IsItem rest item behind × (left ≡ flow_behind item behind)
GivesItem Ended item left = ⊥

-- no item can be taken
abbrev pub GivesNone : Flow → Type 0
GivesNone (Going rest) = HasNoItem rest
GivesNone Ended = Unit {0}

-- what is taken is the first item of the rest, if it has one, and this is left
abbrev pub Gives : Flow → Option Incoming → Flow → Type 0
Gives flow None left = GivesNone flow × (left ≡ flow)
Gives flow (Some taken) left = GivesItem flow (item_of taken) left
