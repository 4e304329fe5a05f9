-- Answers of a command.
use Rattle.std.specs.Prelude.{ℕ, List, string_bytes}
use Rattle.commands.specs.declared.answer.Answer.{Answer}
use Rattle.commands.specs.declared.status.Status.{Status}

-- this holds of the answer's status and text
abbrev pub Meets : (Status → List ℕ → Type 0) → Answer → Type 0
Meets Holds answer = Holds answer.status (string_bytes answer.text)
