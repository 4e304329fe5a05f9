-- What the command `twin` is to answer.
use Rattle.std.specs.Prelude.{ℕ, ◌≡◌, ◌≢◌, ◌⊎◌, List, ◌++◌, codes, decimal}
use Rattle.schemas.specs.Dated.{Dated}
use Rattle.served_history.specs.Refusals.{IsTextsFault}
use Rattle.served_history.specs.Releases.{FlagTexts}
use Rattle.served_history.specs.declared.fault.ServeFault.{ServeFault}
use Rattle.served_history.specs.declared.fault.ServeFault.TheVariants as fault
use Rattle.twin.specs.Runs.{IsTwin}
use Rattle.twin.specs.declared.count.TwinCount.{TwinCount}
use Rattle.commands.specs.Endings.{fault_line}
use Rattle.commands.specs.declared.status.Status.{Status}
use Rattle.commands.specs.declared.status.Status.TheVariants as status

-- both sides answered alike: so many requests, so many bytes, and this revision at the end
abbrev pub equal_line : TwinCount → List ℕ
equal_line count =
    codes "equal: " ++ (decimal count.requests ++ (codes " requests, " ++ (decimal count.bytes
    ++ (codes " bytes, revision " ++ (decimal count.revision ++ codes "\n")))))

-- the text tells what the workload came to on both sides
abbrev pub IsEqualLine : FlagTexts → ℕ → ℕ → Dated → List ℕ → Type 0
IsEqualLine o seed size h text =
    (count : TwinCount) × IsTwin h o seed size count × (text ≡ equal_line count)

-- the text says why one of the texts is refused
abbrev pub IsTextsRefusal : FlagTexts → Dated → List ℕ → Type 0
IsTextsRefusal o h text =
    (f : ServeFault) × (f ≢ fault.Memory) × IsTextsFault h o f × (text ≡ fault_line h f)

-- what `twin` is to answer on an accepted history
abbrev pub IsTwinning : FlagTexts → ℕ → ℕ → Dated → Status → List ℕ → Type 0
IsTwinning o seed size h s text =
    ((s ≡ status.Ok) × IsEqualLine o seed size h text)
    ⊎ ((s ≡ status.Flags) × IsTextsRefusal o h text)
