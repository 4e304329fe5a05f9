-- What follows from the definition of commands.
use Rattle.std.specs.Prelude.{ℕ, ◌≡◌, List}
use Rattle.words.specs.Commands.{IsCommand}
use Rattle.words.specs.declared.command.Command.{Command}

-- all commands that the words are of are one
abbrev pub HasOneCommand : List (List ℕ) → Type 0
HasOneCommand words = (c d : Command) → IsCommand words c → IsCommand words d → c ≡ d
