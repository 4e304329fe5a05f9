-- Which events of a front may follow one another. Connections are numbered from 0, in the order in which they are opened.
use Rattle.std.specs.Prelude.{◌≡◌, ◌+◌, ◌-◌, ◌<◌, ℕ, Bool, true, false, List, [], ◌∷◌, ◌++◌, length, Contains}
use Rattle.disk.specs.Beside.{FrontEvent, Opened, Piece, Closed, End}

-- what was taken before: how many connections were opened, those that were closed, and whether the end came
pub record Past : Type 0 where
  pub opened : ℕ
  pub closed : List ℕ
  pub ended : Bool

abbrev pub nothing_taken : Past
nothing_taken = record { opened = 0; closed = []; ended = false }

abbrev pub past_with : Past → FrontEvent → Past
past_with past (Opened c) = record past { opened = past.opened + 1 }
past_with past (Piece c bytes) = past
past_with past (Closed c) = record past { closed = c ∷ past.closed }
past_with past End = record past { ended = true }

-- the connection was opened, and not closed
abbrev pub IsOpen : Past → ℕ → Type 0
IsOpen past c = (c < past.opened) × ¬ Contains past.closed c

-- A connection is opened with the next number where fewer than 256 are open. A piece, of at least one byte, and a close
-- come of an open one.
abbrev pub IsInTurn : Past → FrontEvent → Type 0
IsInTurn past (Opened c) = (c ≡ past.opened) × (past.opened - length past.closed < 256)
IsInTurn past (Piece c bytes) = IsOpen past c × (0 < length bytes)
IsInTurn past (Closed c) = IsOpen past c
IsInTurn past End = Unit {0}

-- each is in turn, and none comes after the end
abbrev pub AreInTurn : Past → List FrontEvent → Type 0
AreInTurn past [] = Unit {0}
AreInTurn past (event ∷ later) =
    (past.ended ≡ false) × IsInTurn past event × AreInTurn (past_with past event) later

abbrev pub IsLawful : List FrontEvent → Type 0
IsLawful events = AreInTurn nothing_taken events

-- what was taken by these events
abbrev pub past_behind : Past → List FrontEvent → Past
past_behind past [] = past
past_behind past (event ∷ later) = past_behind (past_with past event) later

abbrev pub past_of : List FrontEvent → Past
past_of events = past_behind nothing_taken events

-- of lawful events the last is in turn behind the others, and these are lawful
abbrev pub LastIsInTurn : Type 0
LastIsInTurn =
    (before : List FrontEvent) (event : FrontEvent) → IsLawful (before ++ event ∷ [])
    → IsLawful before × ((past_of before).ended ≡ false) × IsInTurn (past_of before) event
