-- What follows from the definition of a cut.
use Rattle.std.specs.Prelude.{ℕ, ◌≡◌, ◌≤◌}
use Rattle.history_cut.specs.Range.{IsWithin}
use Rattle.schemas.specs.Cutoff.{cutoff}
use Rattle.schemas.specs.Dated.{Dated}
use Rattle.schemas.specs.Rules.{IsAccepted}

-- an accepted history that is cut at one of its releases is accepted
abbrev pub IsAcceptedWhereCut : Dated → ℕ → Type 0
IsAcceptedWhereCut h o = IsAccepted h → IsWithin h o → IsAccepted (cutoff h o)

-- a second cut at the release changes nothing
abbrev pub IsCutOnce : Dated → ℕ → Type 0
IsCutOnce h o = cutoff (cutoff h o) o ≡ cutoff h o

-- a cut at an earlier release makes the first cut needless
abbrev pub IsCutAgain : Dated → ℕ → ℕ → Type 0
IsCutAgain h o e = e ≤ o → cutoff (cutoff h o) e ≡ cutoff h e
