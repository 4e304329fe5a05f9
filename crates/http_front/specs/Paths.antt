-- The path of a request: its segments, each behind a slash. Nothing is percent-decoded.
use Rattle.std.specs.Prelude.{◌≡◌, ◌≢◌, ◌<◌, ◌≤◌, ℕ, List, [], ◌∷◌, ◌++◌, All, length}
use Rattle.std.specs.List.{flat_map}
use Rattle.basis.specs.Names.{IsLabel, IsDottedLabels}

-- b'/'
abbrev pub slash : ℕ
slash = 47

-- the segments, each behind a slash
abbrev pub path_of : List (List ℕ) → List ℕ
path_of segments = flat_map (λ segment. slash ∷ segment) segments

-- a segment isn't empty and has no slash in it
pub record IsSegment (text : List ℕ) : Type 0 where
  pub some : 0 < length text
  pub plain : All (λ c. c ≢ slash) text

-- one label of at most 63 bytes
pub record IsNamespace (text : List ℕ) : Type 0 where
  pub short : length text ≤ 63
  pub label : IsLabel text

-- labels joined by dots, in all at most 253 bytes
pub record IsObjectName (text : List ℕ) : Type 0 where
  pub short : length text ≤ 253
  pub labels : IsDottedLabels text

-- a segment ends before this text: at the path's end or at the next slash
abbrev pub EndsSegment : List ℕ → Type 0
EndsSegment [] = Unit {0}
EndsSegment (c ∷ _) = c ≡ slash

-- the path is a slash, this segment, and a rest before which it ends
pub record IsNextSegment (path segment rest : List ℕ) : Type 0 where
  pub lawful : IsSegment segment
  pub whole : path ≡ slash ∷ (segment ++ rest)
  pub ends : EndsSegment rest
