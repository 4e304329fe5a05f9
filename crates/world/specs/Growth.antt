-- What only grows while a front is called.
use Rattle.std.specs.Prelude.{◌≡◌, ◌⊎◌, ◌≤◌, ℕ, true, false, List, [], ◌∷◌, ◌++◌}
use Rattle.disk.specs.Beside.{FrontEvent, Sent, Beside}
use Rattle.world.specs.Fronts.{TakesFirst, LeavesSends, LeavesEvents, IsShut}

-- sends and events that were taken only grow at their ends, and no count falls
pub record OnlyGrows (old new : Beside) : Type 0 where
  pub sends : (later : List Sent) × (new.sends ≡ old.sends ++ later)
  pub taken : (later : List FrontEvent) × (new.taken ≡ old.taken ++ later)
  pub opened : old.opened ≤ new.opened
  pub faults : old.front_faults ≤ new.front_faults

-- over no call, as over one of the disk
abbrev pub GrowsByNothing : Type 0
GrowsByNothing = (b : Beside) → OnlyGrows b b

-- over two runs of calls
abbrev pub GrowsInTurn : Type 0
GrowsInTurn = (old mid new : Beside) → OnlyGrows old mid → OnlyGrows mid new → OnlyGrows old new

-- where an event is taken
abbrev pub GrowsByTaking : Type 0
GrowsByTaking =
    (room : ℕ) (event : FrontEvent) (old new : Beside) → TakesFirst room event old new → LeavesSends old new
    → old.opened ≤ new.opened → old.front_faults ≤ new.front_faults → OnlyGrows old new

-- where none is taken
abbrev pub GrowsByFailing : Type 0
GrowsByFailing =
    (old new : Beside) → LeavesEvents old new → LeavesSends old new → old.front_faults ≤ new.front_faults
    → OnlyGrows old new

-- where room is made
abbrev pub GrowsByRoom : Type 0
GrowsByRoom = (old new : Beside) → new ≡ record old { spare = new.spare } → OnlyGrows old new

-- where a reply is sent
abbrev pub GrowsBySending : Type 0
GrowsBySending =
    (sent : Sent) (old new : Beside) → new.sends ≡ old.sends ++ sent ∷ [] → LeavesEvents old new
    → old.front_faults ≤ new.front_faults → OnlyGrows old new

-- a reply that was the last of its connection, or that didn't go, shuts the connection
abbrev pub ShutsAtLast : Type 0
ShutsAtLast =
    (sent : Sent) (old new : Beside) → new.sends ≡ old.sends ++ sent ∷ []
    → (sent.last ≡ true) ⊎ (sent.went ≡ false) → IsShut new sent.c

-- a connection that is shut stays so
abbrev pub StaysShut : Type 0
StaysShut = (c : ℕ) (old new : Beside) → OnlyGrows old new → IsShut old c → IsShut new c
