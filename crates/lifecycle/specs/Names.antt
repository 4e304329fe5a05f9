-- The texts by which a version is named (Kubernetes' `apiVersion`).
use Rattle.std.specs.Prelude.{ℕ, List, [], ◌∷◌, ◌++◌, codes}

-- group and version joined by a slash; the version alone in the core group
abbrev pub group_version : List ℕ → List ℕ → List ℕ
group_version [] version = version
group_version (c ∷ cs) version = (c ∷ cs) ++ codes "/" ++ version
