-- What the program is to answer to words and the bytes of a history: a status, and the text that is written with it.
-- The first cause that holds decides: the words, the history's text, the history's rules, the options in their order.
use Rattle.std.specs.Prelude.{ℕ, ◌≡◌, ◌⊎◌, List}
use Rattle.commands.specs.Work.{IsPlain, IsWork}
use Rattle.commands.specs.declared.status.Status.{Status}
use Rattle.commands.specs.declared.status.Status.TheVariants as status
use Rattle.schemas.specs.Dated.{Dated}
use Rattle.words.specs.Commands.{IsCommand}
use Rattle.words.specs.declared.command.Command.{Command}
use Rattle.emu_server.specs.Histories.{IsHistoryRefusal, MeansAccepted}
use Rattle.emu_server.specs.Lines.{usage_line}

-- the bytes mean an accepted history, and this is the work of the command on it
pub record IsAnswerOn (c : Command) (bytes : List ℕ) (s : Status) (text : List ℕ) : Type 0 where
  pub history : Dated
  pub means : MeansAccepted bytes history
  pub work : IsWork c history s text

-- what a command is to answer on these bytes: why they are no history that is accepted, or its work on the history
abbrev pub IsAnswerTo : Command → List ℕ → Status → List ℕ → Type 0
IsAnswerTo c bytes s text =
    ((s ≡ status.History) × IsHistoryRefusal bytes text) ⊎ IsAnswerOn c bytes s text

-- the words are of a command that reads a history and prints an answer
abbrev pub IsCommandLine : List (List ℕ) → Type 0
IsCommandLine words = (c : Command) × IsCommand words c × IsPlain c

-- what the program is to answer to these words and bytes
abbrev pub IsAnswer : List (List ℕ) → List ℕ → Status → List ℕ → Type 0
IsAnswer words bytes s text =
    ((s ≡ status.Usage) × (¬ IsCommandLine words) × (text ≡ usage_line))
    ⊎ ((c : Command) × IsCommand words c × IsPlain c × IsAnswerTo c bytes s text)
