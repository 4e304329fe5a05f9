-- Paths and faults of reading, as texts.
use Rattle.std.specs.Prelude.{ℕ, List, [], ◌∷◌, ◌++◌, codes}
use Rattle.std.specs.List.{flat_map}
use Rattle.conversion.specs.Causes.{cause_text}
use Rattle.conversion.specs.declared.fault.ReadCause.{ReadCause}

-- the names of a path, joined by dots
abbrev pub dotted : List (List ℕ) → List ℕ
dotted [] = []
dotted (name ∷ names) = name ++ flat_map (λ inner. codes "." ++ inner) names

-- what is said of a field that can't be read
abbrev pub fault_text : List (List ℕ) → ReadCause → List ℕ
fault_text path cause = dotted path ++ (codes ": " ++ cause_text cause)
