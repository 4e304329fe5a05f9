-- How many calls take the events of a script at most.
use Rattle.std.specs.Prelude.{◌≡◌, ◌≤◌, ◌+◌, ℕ, List, [], ◌∷◌, length}
use Rattle.scripts.specs.Lawful.{IsLawful}
use Rattle.scripts.specs.Notes.{Noted}
use Rattle.scripts.specs.declared.script.ScriptEvent.{ScriptEvent}
use Rattle.scripts.specs.declared.script.ScriptEvent.TheVariants.{Open, Piece, Close}

-- a piece may be taken byte by byte
abbrev pub weight_of : ScriptEvent → ℕ
weight_of Open = 1
weight_of (Piece c bytes) = length bytes
weight_of (Close c) = 1

abbrev pub weight_of_all : List ScriptEvent → ℕ
weight_of_all [] = 0
weight_of_all (event ∷ later) = weight_of event + weight_of_all later

-- the calls that take lawful events are counted, and have room for a note each
pub record IsWeighed (events : List ScriptEvent) (weight : ℕ) (notes : Noted) : Type 0 where
  pub lawful : IsLawful events
  pub weighed : weight ≡ weight_of_all events
  pub room : weight ≤ notes.room
  pub fresh : notes.noted ≡ []
