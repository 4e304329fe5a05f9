-- The script that lines mean, and the first line at which they mean none.
use Rattle.std.specs.Prelude.{◌≡◌, ◌-◌, ◌≤◌, ℕ, List, [], ◌∷◌, ◌++◌, length, take}
use Rattle.scripts.specs.Lawful.{IsLawful, MayFollow}
use Rattle.scripts.specs.Lines.{lines}
use Rattle.scripts.specs.Writing.{Writes}
use Rattle.scripts.specs.declared.script.ScriptEvent.{ScriptEvent}
use Rattle.scripts.specs.declared.read.ScriptFault.{ScriptFault}
use Rattle.scripts.specs.declared.read.ScriptFault.TheVariants.{BadLine, Memory}

-- each line writes the event at its place
abbrev pub AreWritten : List (List ℕ) → List ScriptEvent → Type 0
AreWritten [] [] = Unit {0}
AreWritten [] (event ∷ events) = ⊥
AreWritten (line ∷ lines) [] = ⊥
AreWritten (line ∷ lines) (event ∷ events) = Writes line event × AreWritten lines events

-- the lines write these events, each of which may follow those before it
pub record AreOf (lines : List (List ℕ)) (events : List ScriptEvent) : Type 0 where
  pub written : AreWritten lines events
  pub lawful : IsLawful events

-- the text means the script of these events
abbrev pub Means : List ℕ → List ScriptEvent → Type 0
Means text events = AreOf (lines text) events

-- the first line at which the lines, numbered from 1, mean no script: those before it mean one
pub record IsFirstBad (lines : List (List ℕ)) (number : ℕ) : Type 0 where
  pub some : 1 ≤ number
  pub inside : number ≤ length lines
  pub before : (events : List ScriptEvent) × AreOf (take (number - 1) lines) events
  pub bad : (events : List ScriptEvent) → ¬ AreOf (take number lines) events

-- why a text is refused: its first bad line, or memory ran out
abbrev pub IsFaultOf : List ℕ → ScriptFault → Type 0
IsFaultOf text (BadLine number) = IsFirstBad (lines text) number
IsFaultOf text Memory = Unit {0}

-- a line goes on behind events: with it they are more
pub record GoesOn (line : List ℕ) (old new : List ScriptEvent) : Type 0 where
  pub event : ScriptEvent
  pub writes : Writes line event
  pub may : MayFollow old event
  pub appended : new ≡ old ++ event ∷ []

-- no event that the line writes may follow these
abbrev pub IsBadBehind : List ℕ → List ScriptEvent → Type 0
IsBadBehind line events = (event : ScriptEvent) → Writes line event → ¬ MayFollow events event

-- a text means at most one script
abbrev pub MeansOne : List ℕ → Type 0
MeansOne text = (a b : List ScriptEvent) → Means text a → Means text b → a ≡ b

-- or it has one first bad line
abbrev pub HasOneBad : List ℕ → Type 0
HasOneBad text = (m n : ℕ) → IsFirstBad (lines text) m → IsFirstBad (lines text) n → m ≡ n

-- and not both
abbrev pub IsGoodOrBad : List ℕ → Type 0
IsGoodOrBad text =
    (events : List ScriptEvent) (number : ℕ) → Means text events → ¬ IsFirstBad (lines text) number
