-- A call of the program on its words, its history and its world.
use Rattle.std.specs.Prelude.{◌≡◌, ◌⊎◌, ℕ, List}
use Rattle.std.specs.declared.option.Option.{Option}
use Rattle.std.specs.Io.KnownBytes.{Keeps}
use Rattle.commands.specs.declared.status.Status.{Status}
use Rattle.commands.specs.declared.status.Status.TheVariants as status
use Rattle.disk.specs.Beside.{Beside}
use Rattle.disk.specs.Images.{Images, Pending}
use Rattle.disk.specs.declared.file.File.{File}
use Rattle.served_history.specs.Releases.{FlagTexts}
use Rattle.emu_server.specs.Lines.{read_fault_line}
use Rattle.emu_server.specs.Run.{IsEnd}
use Rattle.emu_server.specs.Serving.{AsksToServe, IsServedFrom}
use Rattle.emu_server.specs.Written.{IsWritten}

-- the words ask for no server, and this is the end of the command that they ask for
abbrev pub IsPlainRun : List (List ℕ) → List ℕ → Type 0 → Status → Option (List ℕ) → Option (List ℕ) → Type 0
IsPlainRun words bytes read_failed s old new =
    ((o : FlagTexts) → ¬ AsksToServe words o) × IsEnd words bytes read_failed s old new

-- serving a history from its source: a read failed, and the world is as it was; or the bytes were served, or refused
abbrev pub IsServeRun : {W : Type 0} (tells : Type 0) → (W → ℕ) → (W → ℕ → Images → Type 0) → (W → Images)
    → (W → File → Pending) → (W → Beside) → List ℕ → FlagTexts → Type 0 → W → W
    → Status → Option (List ℕ) → Option (List ℕ) → Type 0
IsServeRun tells clock may_leave held pending beside bytes o read_failed from to s old new =
    ((to ≡ from) × read_failed × IsWritten old new s status.ReadFault read_fault_line)
    ⊎ IsServedFrom tells clock may_leave held pending beside bytes o from to s old new

-- A call on these words and these bytes of a history ended with this status; this is what it wrote, and what it left of its
-- world. The world is as it was unless a history was served: where memory ran out before, where the words ask for no server,
-- and where a read failed.
abbrev pub IsRun : {W : Type 0} (tells : Type 0) → (W → ℕ) → (W → ℕ → Images → Type 0) → (W → Images)
    → (W → File → Pending) → (W → Beside) → List (List ℕ) → List ℕ → Type 0 → W → W
    → Status → Option (List ℕ) → Option (List ℕ) → Type 0
IsRun tells clock may_leave held pending beside words bytes read_failed from to s old new =
    ((to ≡ from) × (s ≡ status.Memory) × Keeps old new)
    ⊎ ((to ≡ from) × IsPlainRun words bytes read_failed s old new)
    ⊎ ((o : FlagTexts) × AsksToServe words o
    × IsServeRun tells clock may_leave held pending beside bytes o read_failed from to s old new)
