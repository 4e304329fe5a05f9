-- A mux as a finite map: its connections, by their numbers, with what is left of their streams.
use Rattle.std.specs.Prelude.{◌≡◌, ◌≢◌, ℕ, List, Option, Some, None, option_map}
use Rattle.std.specs.Ordering.{nat_cmp}
use Rattle.std.specs.Map.{lookup}
use Rattle.std.specs.BTreeMap.{is_at}
use Rattle.conn_mux.specs.Flows.{flow_with, Gives}
use Rattle.conn_mux.specs.declared.incoming.Incoming.{Incoming}
use Rattle.conn_mux.specs.declared.flow.Flow.{Flow}

abbrev pub Held : Type 0
Held = List (ℕ × Flow)

-- what is left of the connection's stream, if the connection is held
abbrev pub flow_of : Held → ℕ → Option Flow
flow_of held c = lookup (is_at (nat_cmp c)) held

-- all other connections are held as before
abbrev pub KeepsOthers : Held → ℕ → Held → Type 0
KeepsOthers old c new = (other : ℕ) → other ≢ c → flow_of new other ≡ flow_of old other

-- each connection is held as before
abbrev pub KeepsAll : Held → Held → Type 0
KeepsAll old new = (c : ℕ) → flow_of new c ≡ flow_of old c

-- this is held of the connection, and all others as before
pub record Holds (old : Held) (c : ℕ) (flow : Option Flow) (new : Held) : Type 0 where
  pub here : flow_of new c ≡ flow
  pub others : KeepsOthers old c new

-- the bytes stand behind the others of the connection, if it is held
abbrev pub Appends : Held → ℕ → List ℕ → Held → Type 0
Appends old c bytes new =
    Holds old c (option_map (λ flow. flow_with flow bytes) (flow_of old c)) new

-- what is taken is what the connection gives. One that isn't held gives nothing
abbrev pub GivesAt : Option Flow → Option Incoming → Option Flow → Type 0
GivesAt None taken left = (taken ≡ None) × (left ≡ None)
GivesAt (Some flow) taken left = (after : Flow) × Gives flow taken after × (left ≡ Some after)

-- what is taken is what the connection gives, and all others are held as before
pub record Takes (old : Held) (c : ℕ) (taken : Option Incoming) (new : Held) : Type 0 where
  pub gives : GivesAt (flow_of old c) taken (flow_of new c)
  pub others : KeepsOthers old c new
