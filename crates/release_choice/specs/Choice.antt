-- The releases that texts choose of a history from its first release to its last.
use Rattle.std.specs.Prelude.{◌≡◌, ◌≤◌, ◌-◌, ℕ, List, Some, None, max, option_map}
use Rattle.std.specs.Borrow.{Bor}
use Rattle.std.specs.declared.option.Option.{Option}
use Rattle.minor_version.specs.Ranges.{IsEmulable, IsMinimum, floor_of}
use Rattle.minor_version.specs.Release.{NamesRelease}
use Rattle.release_choice.specs.declared.fault.VersionFault.{VersionFault}
use Rattle.release_choice.specs.declared.fault.VersionFault.TheVariants.{NotAVersion, OutOfRange}

abbrev pub text_of : Option (Bor (List ℕ)) → Option (List ℕ)
text_of = option_map (λ t. t.now)

-- no text names a release
abbrev pub NamesNone : List ℕ → Type 0
NamesNone text = (k : ℕ) → k ≤ 999 → ¬ NamesRelease text k

-- ---- the release that is emulated

-- the one that the text names, which a history from first to last emulates; the last where there is no text
abbrev pub IsEmulated : ℕ → ℕ → Option (List ℕ) → ℕ → Type 0
IsEmulated first last None e = e ≡ last
IsEmulated first last (Some text) e = NamesRelease text e × IsEmulable first last e

-- why the text is refused
abbrev pub IsRefusedVersion : ℕ → ℕ → Option (List ℕ) → VersionFault → Type 0
IsRefusedVersion first last None f = ⊥
IsRefusedVersion first last (Some text) NotAVersion = NamesNone text
IsRefusedVersion first last (Some text) OutOfRange =
    (k : ℕ) × (k ≤ 999) × NamesRelease text k × ¬ IsEmulable first last k

-- ---- the minimum compatibility of a server that emulates e

-- the one that the text names, from the floor to e; the one before e, but not below the floor, where there is no text
abbrev pub IsLeast : ℕ → ℕ → ℕ → Option (List ℕ) → ℕ → Type 0
IsLeast first last e None m = m ≡ max (floor_of first last) (e - 1)
IsLeast first last e (Some text) m = NamesRelease text m × IsMinimum first last e m

-- why the text is refused
abbrev pub IsRefusedLeast : ℕ → ℕ → ℕ → Option (List ℕ) → VersionFault → Type 0
IsRefusedLeast first last e None f = ⊥
IsRefusedLeast first last e (Some text) NotAVersion = NamesNone text
IsRefusedLeast first last e (Some text) OutOfRange =
    (k : ℕ) × (k ≤ 999) × NamesRelease text k × ¬ IsMinimum first last e k
