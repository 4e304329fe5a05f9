-- The texts of releases.
use Rattle.std.specs.Prelude.{◌≡◌, ℕ, List, ◌++◌, ◌⊎◌, codes, decimal}

-- the text `1.k` of the release with the number k, in decimal without leading zeros
abbrev pub release_text : ℕ → List ℕ
release_text k = codes "1." ++ decimal k

-- the text names the release with the number k, in one of three forms
abbrev pub NamesRelease : List ℕ → ℕ → Type 0
NamesRelease text k = (text ≡ release_text k) ⊎ (text ≡ codes "v" ++ release_text k) ⊎ (text ≡ codes "kube=" ++ release_text k)
