-- Serving a history: which words ask for it, and how it ends.
use Rattle.std.specs.Prelude.{◌≡◌, ◌≢◌, ◌⊎◌, ℕ, List, Result, Err}
use Rattle.std.specs.declared.option.Option.{Option}
use Rattle.std.specs.Io.KnownBytes.{Keeps}
use Rattle.commands.specs.Endings.{end_line, end_status}
use Rattle.commands.specs.Texts.{texts_given}
use Rattle.commands.specs.declared.status.Status.{Status}
use Rattle.commands.specs.declared.status.Status.TheVariants as status
use Rattle.disk.specs.Beside.{Beside}
use Rattle.disk.specs.Images.{Images, Pending}
use Rattle.disk.specs.declared.file.File.{File}
use Rattle.schemas.specs.Dated.{Dated}
use Rattle.served_history.specs.Ends.{IsServeEnd}
use Rattle.served_history.specs.Releases.{FlagTexts}
use Rattle.served_history.specs.declared.fault.ServeFault.{ServeFault}
use Rattle.served_history.specs.declared.fault.ServeFault.TheVariants as fault
use Rattle.session_ends.specs.declared.served.Served.{Served}
use Rattle.words.specs.Commands.{IsCommand}
use Rattle.words.specs.declared.command.Command.{Command}
use Rattle.words.specs.declared.command.Command.TheVariants.{Serve, Replay}
use Rattle.emu_server.specs.Histories.{IsHistoryRefusal, MeansAccepted}
use Rattle.emu_server.specs.Written.{IsWritten}

-- the command serves, with these texts
abbrev pub ServesWith : Command → FlagTexts → Type 0
ServesWith (Serve flags store port connections) o = o ≡ texts_given flags
ServesWith (Replay flags store script) o = o ≡ texts_given flags
ServesWith _ o = ⊥

-- the words ask to serve, with these texts
abbrev pub AsksToServe : List (List ℕ) → FlagTexts → Type 0
AsksToServe words o = (c : Command) × IsCommand words c × ServesWith c o

-- what was said of an end: nothing, where memory ran out; its line, or a front of it where that couldn't be written
abbrev pub IsTold : Dated → Result Served ServeFault → Status → Option (List ℕ) → Option (List ℕ) → Type 0
IsTold h end s old new = ((s ≡ status.Memory) × Keeps old new)
    ⊎ ((end ≢ Err fault.Memory) × IsWritten old new s (end_status end) (end_line h end))

-- an accepted history was served with these texts: how that ended, and what was said of it
abbrev pub IsServing : {W : Type 0} (tells : Type 0) → (W → ℕ) → (W → ℕ → Images → Type 0) → (W → Images)
    → (W → File → Pending) → (W → Beside) → Dated → FlagTexts → W → W → Status → Option (List ℕ) → Option (List ℕ)
    → Type 0
IsServing tells clock may_leave held pending beside h o from to s old new = (end : Result Served ServeFault)
    × IsServeEnd tells clock may_leave held pending beside h o from to end × IsTold h end s old new

-- the bytes are no history that is accepted, or it couldn't be found out: what was said of it
abbrev pub IsNotServed : List ℕ → Status → Option (List ℕ) → Option (List ℕ) → Type 0
IsNotServed bytes s old new = ((s ≡ status.Memory) × Keeps old new)
    ⊎ ((line : List ℕ) × IsHistoryRefusal bytes line × IsWritten old new s status.History line)

-- the bytes mean no accepted history, and the world is as it was; or the history that they mean was served
abbrev pub IsServedFrom : {W : Type 0} (tells : Type 0) → (W → ℕ) → (W → ℕ → Images → Type 0) → (W → Images)
    → (W → File → Pending) → (W → Beside) → List ℕ → FlagTexts → W → W → Status → Option (List ℕ) → Option (List ℕ)
    → Type 0
IsServedFrom tells clock may_leave held pending beside bytes o from to s old new =
    ((to ≡ from) × IsNotServed bytes s old new)
    ⊎ ((h : Dated) × MeansAccepted bytes h
    × IsServing tells clock may_leave held pending beside h o from to s old new)
