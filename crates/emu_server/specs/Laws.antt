-- What follows from the definition of an answer.
use Rattle.std.specs.Prelude.{ℕ, List}
use Rattle.commands.specs.Laws.{AreOne}
use Rattle.emu_server.specs.Answer.{IsAnswer}
use Rattle.commands.specs.declared.status.Status.{Status}

-- all answers to these words and the bytes of a history are one
abbrev pub HasOneAnswer : List (List ℕ) → List ℕ → Type 0
HasOneAnswer words bytes =
    (s t : Status) (line other : List ℕ) →
    IsAnswer words bytes s line → IsAnswer words bytes t other → AreOne s t line other
