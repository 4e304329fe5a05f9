-- What a call of a front takes of the events to come.
use Rattle.std.specs.Prelude.{ℕ, nat_le, if◌then◌else◌, List, [], ◌∷◌, length, take, drop}
use Rattle.disk.specs.Beside.{FrontEvent, Opened, Piece, Closed, End}
use Rattle.world.specs.declared.event.Event.{Event}
use Rattle.world.specs.declared.event.Event.TheVariants.{Opened as GivesOpened, Piece as GivesPiece, Closed as GivesClosed, End as GivesEnd}

-- the event that an answer tells, with the bytes at the front of the buffer
abbrev pub front_event : Event → List ℕ → FrontEvent
front_event (GivesOpened c) buffer = Opened c
front_event (GivesPiece c n) buffer = Piece c (take n buffer)
front_event (GivesClosed c) buffer = Closed c
front_event GivesEnd buffer = End

-- an event as a buffer of this size takes it: of a piece as much as has room
abbrev pub cut_to : ℕ → FrontEvent → FrontEvent
cut_to room (Opened c) = Opened c
cut_to room (Piece c bytes) = Piece c (take room bytes)
cut_to room (Closed c) = Closed c
cut_to room End = End

-- what such a buffer leaves of an event, before the later ones: the rest of a piece is a piece of its own
abbrev pub rest_of : ℕ → FrontEvent → List FrontEvent → List FrontEvent
rest_of room (Opened c) later = later
rest_of room (Piece c bytes) later =
    (if nat_le (length bytes) room then later else Piece c (drop room bytes) ∷ later)
rest_of room (Closed c) later = later
rest_of room End later = later

-- what such a buffer takes of the events to come; nothing is to come once the end was taken
abbrev pub part_of : ℕ → List FrontEvent → List FrontEvent
part_of room [] = []
part_of room (event ∷ later) = cut_to room event ∷ []

-- what it leaves of them
abbrev pub left_of : ℕ → List FrontEvent → List FrontEvent
left_of room [] = []
left_of room (event ∷ later) = rest_of room event later

-- what it is given: the first of them, and after the end the end again
abbrev pub given_of : ℕ → List FrontEvent → FrontEvent
given_of room [] = End
given_of room (event ∷ later) = cut_to room event
