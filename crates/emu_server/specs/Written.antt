-- What a text leaves that is written with a status.
use Rattle.std.specs.Prelude.{ℕ, ◌≡◌, ◌⊎◌, List}
use Rattle.std.specs.declared.option.Option.{Option}
use Rattle.std.specs.Io.KnownBytes.{Appends}
use Rattle.commands.specs.declared.status.Status.{Status}
use Rattle.commands.specs.declared.status.Status.TheVariants as status
use Rattle.outside.specs.Streams.{AppendsFront}

-- the text was written whole and the status is the wanted one, or a front of it was written and the status is that of a
-- write fault
abbrev pub IsWritten : Option (List ℕ) → Option (List ℕ) → Status → Status → List ℕ → Type 0
IsWritten old new result wanted text =
    ((result ≡ wanted) × Appends old new text)
    ⊎ ((result ≡ status.WriteFault) × AppendsFront old new text)
