-- What follows from the definitions.
use Rattle.std.specs.Prelude.{ℕ, ◌≡◌, ◌≤◌, List}
use Rattle.schemas.specs.Dated.{Dated}
use Rattle.schemas.specs.Rules.{IsAccepted, last_of}
use Rattle.words.specs.declared.command.Command.{Command}
use Rattle.commands.specs.Work.{IsWork}
use Rattle.commands.specs.declared.status.Status.{Status}

-- two answers have one status and one text
pub record AreOne (s t : Status) (line other : List ℕ) : Type 0 where
  pub statuses : s ≡ t
  pub texts : line ≡ other

-- all answers of a command on the history are one
abbrev pub HasOneAnswer : Dated → Type 0
HasOneAnswer h =
    (c : Command) (s t : Status) (line other : List ℕ) → IsAccepted h → last_of h ≤ 999
    → IsWork c h s line → IsWork c h t other → AreOne s t line other
