-- What the command `cut` is to answer.
use Rattle.std.specs.Prelude.{ℕ, ◌≡◌, ◌≤◌, ◌⊎◌, List, codes}
use Rattle.answer_lines.specs.Options.{version_line}
use Rattle.history_cut.specs.Range.{IsOutside, IsWithin}
use Rattle.minor_version.specs.Release.{NamesRelease}
use Rattle.release_choice.specs.Choice.{NamesNone}
use Rattle.release_choice.specs.declared.fault.VersionFault.{VersionFault}
use Rattle.release_choice.specs.declared.fault.VersionFault.TheVariants.{NotAVersion, OutOfRange}
use Rattle.schemas.specs.Cutoff.{cutoff}
use Rattle.schemas.specs.Dated.{Dated}
use Rattle.schemas.specs.Rules.{first_of, last_of}
use Rattle.commands.specs.Fold.{IsDocument}
use Rattle.commands.specs.declared.status.Status.{Status}
use Rattle.commands.specs.declared.status.Status.TheVariants as status

-- why the release is refused at which to cut
abbrev pub at_line : Dated → VersionFault → List ℕ
at_line h f = version_line (codes "at") (first_of h) (last_of h) f

-- the text names no release, or one of which the history doesn't speak
abbrev pub IsRefusedAt : Dated → List ℕ → VersionFault → Type 0
IsRefusedAt h at NotAVersion = NamesNone at
IsRefusedAt h at OutOfRange = (k : ℕ) × (k ≤ 999) × NamesRelease at k × IsOutside h k

abbrev pub IsCutRefusal : List ℕ → Dated → List ℕ → Type 0
IsCutRefusal at h text = (f : VersionFault) × IsRefusedAt h at f × (text ≡ at_line h f)

-- why the text is refused, or the document of the history cut at the release that it names
abbrev pub IsCutting : List ℕ → Dated → Status → List ℕ → Type 0
IsCutting at h s text =
    ((s ≡ status.Flags) × IsCutRefusal at h text)
    ⊎ ((o : ℕ) × (o ≤ 999) × NamesRelease at o × IsWithin h o × IsDocument (cutoff h o) s text)
