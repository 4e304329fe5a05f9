-- The connections of a listener, and what they tell.
use Rattle.std.specs.Prelude.{◌≡◌, ◌≤◌, ◌<◌, ℕ, List, All}
use Rattle.world.specs.declared.event.Event.{Event}
use Rattle.world.specs.declared.event.Event.TheVariants.{Opened, Piece, Closed, End}
use Rattle.real_world.specs.declared.connection.Connection.{Connection}

-- each connection has a number below this one
abbrev pub AreBelow : ℕ → List Connection → Type 0
AreBelow opened open_ones = All (λ c. c.number < opened) open_ones

-- a piece of the connection that has at least one byte and has room in the buffer, or its close
abbrev pub IsOf : ℕ → ℕ → Event → Type 0
IsOf number room (Opened c) = ⊥
IsOf number room (Piece c n) = (c ≡ number) × (1 ≤ n) × (n ≤ room)
IsOf number room (Closed c) = c ≡ number
IsOf number room End = ⊥

-- such an event of one of the connections that were opened
abbrev pub IsBelow : ℕ → ℕ → Event → Type 0
IsBelow opened room (Opened c) = ⊥
IsBelow opened room (Piece c n) = (c < opened) × (1 ≤ n) × (n ≤ room)
IsBelow opened room (Closed c) = c < opened
IsBelow opened room End = ⊥
