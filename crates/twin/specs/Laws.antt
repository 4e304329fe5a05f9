-- What follows from the definitions: one count.
use Rattle.std.specs.Prelude.{◌≡◌, ◌≤◌, ℕ, List}
use Rattle.schemas.specs.Dated.{Dated}
use Rattle.schemas.specs.Rules.{last_of}
use Rattle.served_history.specs.Releases.{FlagTexts}
use Rattle.twin.specs.Runs.{IsRunOf, IsTwin}
use Rattle.twin.specs.declared.count.TwinCount.{TwinCount}

-- the releases, the texts, the seed and the size determine what a run by the history comes to
abbrev pub HasOneCount : Dated → Type 0
HasOneCount h = (e m : ℕ) (features runtime : List ℕ) (seed size : ℕ) (count other : TwinCount)
    → IsRunOf h e m features runtime seed size count
    → IsRunOf h e m features runtime seed size other → count ≡ other

-- and so do the texts that choose the releases
abbrev pub HasOneTwin : Dated → Type 0
HasOneTwin h = (o : FlagTexts) (seed size : ℕ) (count other : TwinCount) → last_of h ≤ 999
    → IsTwin h o seed size count → IsTwin h o seed size other → count ≡ other
