-- The events of a script as a front tells them, and how far they were taken.
use Rattle.std.specs.Prelude.{◌≡◌, ◌+◌, ◌-◌, ◌^◌, ◌≤◌, ◌<◌, nat_le, if◌then◌else◌, min, ℕ, Bool, true, false, List, [], ◌∷◌, ◌++◌, length, take, drop, Contains}
use Rattle.disk.specs.Beside.{FrontEvent, Opened as TellsOpened, Piece as TellsPiece, Closed as TellsClosed, End as TellsEnd}
use Rattle.scripts.specs.Lawful.{opened, IsLawful as IsLawfulScript}
use Rattle.scripts.specs.declared.script.ScriptEvent.{ScriptEvent}
use Rattle.scripts.specs.declared.script.ScriptEvent.TheVariants.{Open, Piece, Close}
use Rattle.world.specs.declared.event.Event.TheVariants.{Opened as GivesOpened, Piece as GivesPiece, Closed as GivesClosed}
use Rattle.world.specs.declared.place.Place.{Place}
use Rattle.world.specs.declared.place.Step.{Step}
use Rattle.world.specs.Events.{part_of, left_of, given_of}
use Rattle.world.specs.Rules.{IsLawful}

-- the events of a script and the end, where connections are numbered from this number on
abbrev pub told_from : ℕ → List ScriptEvent → List FrontEvent
told_from n [] = TellsEnd ∷ []
told_from n (Open ∷ later) = TellsOpened n ∷ told_from (n + 1) later
told_from n (Piece c bytes ∷ later) = TellsPiece c bytes ∷ told_from n later
told_from n (Close c ∷ later) = TellsClosed c ∷ told_from n later

abbrev pub told : List ScriptEvent → List FrontEvent
told events = told_from 0 events

-- what buffers of these sizes take in turn
abbrev pub parts_of : List ℕ → List FrontEvent → List FrontEvent
parts_of [] coming = []
parts_of (room ∷ rooms) coming = part_of room coming ++ parts_of rooms (left_of room coming)

-- what they leave
abbrev pub left_by : List ℕ → List FrontEvent → List FrontEvent
left_by [] coming = coming
left_by (room ∷ rooms) coming = left_by rooms (left_of room coming)

-- how many calls take an event at most: one for each byte
abbrev pub calls_of : FrontEvent → ℕ
calls_of (TellsOpened c) = 1
calls_of (TellsPiece c bytes) = length bytes
calls_of (TellsClosed c) = 1
calls_of TellsEnd = 0

abbrev pub calls_for : List FrontEvent → ℕ
calls_for [] = 0
calls_for (event ∷ later) = calls_of event + calls_for later

-- the events to come from a place on: of the first, if it is a piece, the bytes from the place's offset on
abbrev pub ahead_of : ℕ → ℕ → List ScriptEvent → List FrontEvent
ahead_of n offset [] = TellsEnd ∷ []
ahead_of n offset (Open ∷ later) = TellsOpened n ∷ told_from (n + 1) later
ahead_of n offset (Piece c bytes ∷ later) = TellsPiece c (drop offset bytes) ∷ told_from n later
ahead_of n offset (Close c ∷ later) = TellsClosed c ∷ told_from n later

abbrev pub ahead : List ScriptEvent → Place → List FrontEvent
ahead events place = ahead_of place.opened place.offset (drop place.index events)

-- the offset is in the first event
abbrev pub IsInside : ℕ → List ScriptEvent → Type 0
IsInside offset [] = Unit {0}
IsInside offset (Open ∷ later) = Unit {0}
IsInside offset (Piece c bytes ∷ later) = offset < length bytes
IsInside offset (Close c ∷ later) = Unit {0}

-- the place counts the connections that were opened before it
pub record IsPlace (events : List ScriptEvent) (place : Place) : Type 0 where
  pub within : place.index ≤ length events
  pub counted : place.opened ≡ opened (take place.index events)
  pub inside : IsInside place.offset (drop place.index events)

-- a place from which the event can be taken
abbrev pub IsReady : Place → ScriptEvent → Type 0
IsReady place Open = place.opened + 1 < 2 ^ 32
IsReady place (Piece c bytes) = (place.offset < length bytes) × (length bytes ≤ 4096)
IsReady place (Close c) = Unit {0}

-- the place behind an event that is taken whole, with this count of connections
abbrev pub behind : Place → ℕ → Place
behind place opened = record { index = place.index + 1; offset = 0; opened = opened }

-- the place behind so many more bytes of a piece that has so many
abbrev pub within_piece : Place → ℕ → ℕ → Place
within_piece place n size =
    (if nat_le size (place.offset + n) then behind place place.opened
    else record { index = place.index; offset = place.offset + n; opened = place.opened })

-- what a buffer of this size takes of a piece
pub record IsPieceStep (place : Place) (c : ℕ) (bytes : List ℕ) (room : ℕ) (buffer : List ℕ) (step : Step) : Type 0 where
  pub event : step.event ≡ GivesPiece c step.note
  pub note : step.note ≡ min room (length bytes - place.offset)
  pub same : take step.note buffer ≡ take step.note (drop place.offset bytes)
  pub there : step.place ≡ within_piece place step.note (length bytes)

-- what a buffer of this size takes of the event at a place
abbrev pub IsStep : Place → ScriptEvent → ℕ → List ℕ → Step → Type 0
IsStep place Open room buffer step =
    step ≡ record { event = GivesOpened place.opened; note = 0; place = behind place (place.opened + 1) }
IsStep place (Piece c bytes) room buffer step = IsPieceStep place c bytes room buffer step
IsStep place (Close c) room buffer step =
    step ≡ record { event = GivesClosed c; note = 0; place = behind place place.opened }

-- nothing is to come once the end was taken
abbrev pub coming_from : List ScriptEvent → Place → Bool → List FrontEvent
coming_from events place true = []
coming_from events place false = ahead events place

-- the sizes of the buffers that took the events, and of one for the end
abbrev pub rooms_of : List ℕ → Bool → List ℕ
rooms_of noted true = noted ++ 0 ∷ []
rooms_of noted false = noted

-- how many connections were opened, the events that were taken, and those to come
pub record Told : Type 0 where
  pub opened : ℕ
  pub taken : List FrontEvent
  pub coming : List FrontEvent

abbrev pub taken_of : List ScriptEvent → List ℕ → Bool → List FrontEvent
taken_of events noted ended = parts_of (rooms_of noted ended) (told events)

abbrev pub coming_of : List ScriptEvent → List ℕ → Bool → List FrontEvent
coming_of events noted ended = left_by (rooms_of noted ended) (told events)

-- what a tape keeps: each buffer took an event, and the end is taken behind the last event
pub record IsKept (events : List ScriptEvent) (noted : List ℕ) (spare : ℕ) (place : Place) (ended : Bool) : Type 0 where
  pub script : IsLawfulScript events
  pub counts : IsPlace events place
  pub here : coming_of events noted ended ≡ coming_from events place ended
  pub lawful : IsLawful (taken_of events noted ended ++ coming_of events noted ended)
  pub room : calls_for (coming_of events noted ended) ≤ spare
  pub counted : length (taken_of events noted ended) ≡ length (rooms_of noted ended)
  pub at_end : ended ≡ true → place.index ≡ length events
  pub end_taken : ended ≡ true → Contains (taken_of events noted ended) TellsEnd

-- a call of a tape: a buffer of this size takes the first of the events to come
pub record TakesNext (room : ℕ) (event : FrontEvent) (old new : Told) : Type 0 where
  pub given : event ≡ given_of room old.coming
  pub taken : new.taken ≡ old.taken ++ part_of room old.coming
  pub coming : new.coming ≡ left_of room old.coming
  pub going : ¬ Contains old.taken TellsEnd → new.taken ≡ old.taken ++ event ∷ []
  pub ended : Contains old.taken TellsEnd → (event ≡ TellsEnd) × (new.taken ≡ old.taken)
  pub lawful : IsLawful new.taken
