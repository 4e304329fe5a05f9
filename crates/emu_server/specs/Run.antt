-- How a call of the program ends: with which status, and what it wrote.
use Rattle.std.specs.Prelude.{ℕ, ◌≤◌, ◌≡◌, ◌⊎◌, List, length}
use Rattle.std.specs.declared.option.Option.{Option}
use Rattle.std.specs.Io.KnownBytes.{Keeps, Appends, Consumes}
use Rattle.commands.specs.declared.status.Status.{Status}
use Rattle.commands.specs.declared.status.Status.TheVariants as status
use Rattle.outside.specs.Streams.{AppendsFront}
use Rattle.words.specs.declared.command.Command.{Command}
use Rattle.emu_server.specs.Answer.{IsAnswer, IsAnswerTo, IsCommandLine}
use Rattle.emu_server.specs.Lines.{read_fault_line}

-- a text that the program may be about to write: its answer, or where a read failed the line that says so
abbrev pub IsDue : List (List ℕ) → List ℕ → Type 0 → List ℕ → Type 0
IsDue words bytes read_failed text =
    ((s : Status) × IsAnswer words bytes s text)
    ⊎ (IsCommandLine words × read_failed × (text ≡ read_fault_line))

-- a call on these words and these bytes of a history ended with this status, and this is what it wrote: the answer
-- whole, the line of a read fault whole, a front of what was due, or nothing where memory ran out
abbrev pub IsEnd :
    List (List ℕ) → List ℕ → Type 0 → Status → Option (List ℕ) → Option (List ℕ) → Type 0
IsEnd words bytes read_failed status.Memory old new = Keeps old new
IsEnd words bytes read_failed status.ReadFault old new =
    IsCommandLine words × Appends old new read_fault_line
IsEnd words bytes read_failed status.WriteFault old new =
    (text : List ℕ) × IsDue words bytes read_failed text × AppendsFront old new text
IsEnd words bytes read_failed s old new =
    (text : List ℕ) × IsAnswer words bytes s text × Appends old new text

-- the same of a command
abbrev pub IsPlainEnd :
    Command → List ℕ → Type 0 → Status → Option (List ℕ) → Option (List ℕ) → Type 0
IsPlainEnd c bytes read_failed status.Memory old new = Keeps old new
IsPlainEnd c bytes read_failed status.ReadFault old new = Appends old new read_fault_line
IsPlainEnd c bytes read_failed status.WriteFault old new =
    (text : List ℕ)
    × (((s : Status) × IsAnswerTo c bytes s text) ⊎ (read_failed × (text ≡ read_fault_line)))
    × AppendsFront old new text
IsPlainEnd c bytes read_failed s old new =
    (text : List ℕ) × IsAnswerTo c bytes s text × Appends old new text

-- at most so many bytes were taken
abbrev pub TakesAtMost : ℕ → Option (List ℕ) → Option (List ℕ) → Type 0
TakesAtMost most old new = (bytes : List ℕ) × (length bytes ≤ most) × Consumes old new bytes
