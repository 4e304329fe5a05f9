-- The words of API versions, as `v1`, `v2beta1` and `v1alpha3` (Kubernetes API versioning).
use Rattle.std.specs.Prelude.{ℕ, ◌≡◌, ◌≤◌, List, [], ◌++◌, codes, decimal}
use Rattle.lifecycle.specs.declared.version.Level.{Level}
use Rattle.lifecycle.specs.declared.version.Level.TheVariants.{Ga, Beta, Alpha}
use Rattle.lifecycle.specs.declared.version.VersionWord.{VersionWord}

-- a number that stands in a version word
abbrev pub IsNumber : ℕ → Type 0
IsNumber n = (1 ≤ n) × (n ≤ 999)

abbrev pub IsLevel : Level → Type 0
IsLevel Ga = Unit {0}
IsLevel (Beta n) = IsNumber n
IsLevel (Alpha n) = IsNumber n

abbrev pub IsWord : VersionWord → Type 0
IsWord w = IsNumber w.major × IsLevel w.level

-- what stands behind the major number
abbrev pub level_text : Level → List ℕ
level_text Ga = []
level_text (Beta n) = codes "beta" ++ decimal n
level_text (Alpha n) = codes "alpha" ++ decimal n

-- the text of a version word
abbrev pub word_text : VersionWord → List ℕ
word_text w = codes "v" ++ decimal w.major ++ level_text w.level

-- the text is that of a version word
abbrev pub IsVersion : List ℕ → Type 0
IsVersion text = (w : VersionWord) × IsWord w × (text ≡ word_text w)
