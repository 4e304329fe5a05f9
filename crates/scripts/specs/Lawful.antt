-- Which events may follow one another. Connections are numbered from 0, in the order in which they are opened.
use Rattle.std.specs.Prelude.{◌≡◌, ◌-◌, ◌<◌, ◌≤◌, ℕ, Bool, true, false, List, ◌∷◌, ◌++◌, length, count_by, Contains}
use Rattle.scripts.specs.declared.script.ScriptEvent.{ScriptEvent}
use Rattle.scripts.specs.declared.script.ScriptEvent.TheVariants.{Open, Piece, Close}

abbrev pub opens : ScriptEvent → Bool
opens Open = true
opens (Piece c bytes) = false
opens (Close c) = false

abbrev pub closes : ScriptEvent → Bool
closes Open = false
closes (Piece c bytes) = false
closes (Close c) = true

-- how many connections were opened
abbrev pub opened : List ScriptEvent → ℕ
opened events = count_by opens events

-- how many connections were closed
abbrev pub closed : List ScriptEvent → ℕ
closed events = count_by closes events

-- the connection was opened, and isn't closed
abbrev pub IsOpen : List ScriptEvent → ℕ → Type 0
IsOpen events c = (c < opened events) × ¬ Contains events (Close c)

-- The event may follow these. At most 256 connections are open, and at most 1,000,000 are opened in all. What comes comes
-- of a connection that is open, and a piece has 1 to 4,096 bytes.
abbrev pub MayFollow : List ScriptEvent → ScriptEvent → Type 0
MayFollow before Open = (opened before - closed before < 256) × (opened before < 1000000)
MayFollow before (Piece c bytes) = IsOpen before c × (0 < length bytes) × (length bytes ≤ 4096)
MayFollow before (Close c) = IsOpen before c

-- each event may follow those before it
pub record IsLawful (events : List ScriptEvent) : Type 0 where
  pub each : (before : List ScriptEvent) (event : ScriptEvent) (after : List ScriptEvent)
      → events ≡ before ++ event ∷ after → MayFollow before event
