-- What the calls of a front leave.
use Rattle.std.specs.Prelude.{◌≡◌, ◌⊎◌, ◌+◌, ◌≤◌, ◌<◌, ℕ, true, false, [], ◌∷◌, ◌++◌, Contains}
use Rattle.basis.specs.Counts.{Rose}
use Rattle.disk.specs.Beside.{FrontEvent, Sent, Beside, End}
use Rattle.world.specs.declared.event.Event.{Event}
use Rattle.world.specs.declared.event.Event.TheVariants.{Opened as GivesOpened, Piece as GivesPiece, Closed as GivesClosed, End as GivesEnd}
use Rattle.world.specs.Events.{part_of, left_of, given_of}

-- a front at its start
pub record IsAtStart (b : Beside) : Type 0 where
  pub taken : b.taken ≡ []
  pub sends : b.sends ≡ []
  pub spare : b.spare ≡ 0
  pub opened : b.opened ≡ 0
  pub unfailed : b.front_faults ≡ b.send_mark

-- A call failed that took events, since the last send: the count of faults is above the send mark.
abbrev pub IsAboveMark : Beside → Type 0
IsAboveMark b = Rose b.send_mark b.front_faults

-- a connection of which nothing more is sent: a reply was its last, or a send failed
abbrev pub IsShut : Beside → ℕ → Type 0
IsShut b c = (s : Sent) × Contains b.sends s × (s.c ≡ c) × ((s.last ≡ true) ⊎ (s.went ≡ false))

-- The answer and the count of connections: a connection that is opened has the old count as its number, others were
-- opened before. A piece has at least one byte, and has room in the buffer.
abbrev pub IsNumbered : ℕ → Event → ℕ → ℕ → Type 0
IsNumbered room (GivesOpened c) before now = (c ≡ before) × (now ≡ before + 1)
IsNumbered room (GivesPiece c n) before now = (c < before) × (1 ≤ n) × (n ≤ room) × (now ≡ before)
IsNumbered room (GivesClosed c) before now = (c < before) × (now ≡ before)
IsNumbered room GivesEnd before now = now ≡ before

-- a buffer of this size takes the first of the events to come, and this is the event
pub record TakesFirst (room : ℕ) (event : FrontEvent) (old new : Beside) : Type 0 where
  pub given : event ≡ given_of room old.coming
  pub taken : new.taken ≡ old.taken ++ part_of room old.coming
  pub coming : new.coming ≡ left_of room old.coming

-- the event stands behind the others that were taken; after the end only the end comes, and nothing more is taken
pub record TakesOne (event : FrontEvent) (old new : Beside) : Type 0 where
  pub going : ¬ Contains old.taken End → new.taken ≡ old.taken ++ event ∷ []
  pub ended : Contains old.taken End → (event ≡ End) × (new.taken ≡ old.taken)

-- what `next` leaves
pub record LeavesSends (old new : Beside) : Type 0 where
  pub sends : new.sends ≡ old.sends
  pub spare : new.spare ≡ old.spare
  pub mark : new.send_mark ≡ old.send_mark

-- what `send` leaves, beside the list of sends
pub record LeavesEvents (old new : Beside) : Type 0 where
  pub taken : new.taken ≡ old.taken
  pub coming : new.coming ≡ old.coming
  pub opened : new.opened ≡ old.opened
