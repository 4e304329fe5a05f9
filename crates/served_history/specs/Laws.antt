-- What follows from the definitions: the history cut at the release that is emulated serves the same.
use Rattle.std.specs.Prelude.{◌≡◌, ◌↔◌, ◌≤◌, ℕ, List, Some, None}
use Rattle.plain_machine.specs.declared.machine.Machine.{Machine}
use Rattle.release_view.specs.Views.{IsViewByTexts, Viewed}
use Rattle.schemas.specs.Cutoff.{cutoff}
use Rattle.schemas.specs.Dated.{Dated}
use Rattle.schemas.specs.Rules.{last_of}
use Rattle.served_history.specs.Releases.{Accepts, FlagTexts, IsServerOf}

-- texts make the same views of a release, whether the history is whole or cut at it or later
abbrev pub IsViewedAlikeWhereCut : Dated → Type 0
IsViewedAlikeWhereCut h = (e o : ℕ) (features config : List ℕ) (view : Viewed) → e ≤ o → o ≤ last_of h
    → IsViewByTexts h e features config view ↔ IsViewByTexts (cutoff h o) e features config view

-- A binary of the history cut at e takes, for a minimum compatibility that is named, the texts that this one takes at e; and
-- it serves the same, but that its version page names e as its own release.
abbrev pub ServesAlikeWhereCut : Dated → Type 0
ServesAlikeWhereCut h = (o : FlagTexts) (e m : ℕ) (text : List ℕ) (machine : Machine) (back : Viewed)
    → o.least ≡ Some text → Accepts h o e m → IsServerOf h o e m machine back
    → Accepts (cutoff h e) (record o { emulated = None }) e m
    × IsServerOf (cutoff h e) (record o { emulated = None }) e m (record machine { release = e }) back
