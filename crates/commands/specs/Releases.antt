-- The release that a command emulates.
use Rattle.std.specs.Prelude.{ℕ, ◌≡◌, ◌⊎◌, List, codes}
use Rattle.std.specs.declared.option.Option.{Option}
use Rattle.answer_lines.specs.Options.{version_line}
use Rattle.minor_version.specs.Ranges.{floor_of}
use Rattle.release_choice.specs.Choice.{IsEmulated, IsRefusedVersion}
use Rattle.release_choice.specs.declared.fault.VersionFault.{VersionFault}
use Rattle.schemas.specs.Dated.{Dated}
use Rattle.schemas.specs.Rules.{first_of, last_of}
use Rattle.commands.specs.declared.status.Status.{Status}
use Rattle.commands.specs.declared.status.Status.TheVariants as status

-- why the release to emulate is refused
abbrev pub emulated_line : Dated → VersionFault → List ℕ
emulated_line h f = version_line (codes "emulated-version") (floor_of (first_of h) (last_of h)) (last_of h) f

-- the release to emulate is refused, and this line says why
abbrev pub IsVersionRefusal : Option (List ℕ) → Dated → List ℕ → Type 0
IsVersionRefusal emulated h text =
    (f : VersionFault) × IsRefusedVersion (first_of h) (last_of h) emulated f
    × (text ≡ emulated_line h f)

-- what a command is to answer that works at a release: why the release is refused, or its work there
abbrev pub AtRelease :
    Option (List ℕ) → Dated → (ℕ → Status → List ℕ → Type 0) → Status → List ℕ → Type 0
AtRelease emulated h Work s text =
    ((s ≡ status.Flags) × IsVersionRefusal emulated h text)
    ⊎ ((e : ℕ) × IsEmulated (first_of h) (last_of h) emulated e × Work e s text)
