-- What may lie beside a disk, in an object that is a disk and a front of connections. No call of the disk changes it.
use Rattle.std.specs.Prelude.{ℕ, Bool, List, []}

-- an event of a front, with the bytes of a piece
pub data FrontEvent : Type 0 where
  Opened : (c : ℕ) → FrontEvent
  Piece : (c : ℕ) (bytes : List ℕ) → FrontEvent
  Closed : (c : ℕ) → FrontEvent
  End : FrontEvent

-- a reply that was sent: the moment, the number of events taken before it, the connection, the bytes, whether it was
-- the last of its connection, and whether it went
pub record Sent : Type 0 where
  pub at : ℕ
  pub seen : ℕ
  pub c : ℕ
  pub bytes : List ℕ
  pub last : Bool
  pub went : Bool

-- the front's count of faults, and the value it had after the last send; the connections opened so far; the sends that
-- room was made for; the events taken and those to come; the sends
pub record Beside : Type 0 where
  pub front_faults : ℕ
  pub send_mark : ℕ
  pub opened : ℕ
  pub spare : ℕ
  pub taken : List FrontEvent
  pub coming : List FrontEvent
  pub sends : List Sent

-- a disk alone
abbrev pub alone : Beside
alone = record { front_faults = 0; send_mark = 0; opened = 0; spare = 0; taken = []; coming = []; sends = [] }
