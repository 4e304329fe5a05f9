-- The pieces of a flag text, between its commas.
use Rattle.std.specs.Prelude.{ℕ, ◌+◌, ◌-◌, ◌==◌, ◌||◌, not, Bool, List, [], ◌∷◌, if◌then◌else◌, map, filter, length, take, drop, Option, Some, None}
use Rattle.std.specs.List.{prefix_len, suffix_len, position, slice_split, enumerate_from, list_any}
use Rattle.std.specs.Str.{bytes_eq}

-- a space or a tab
abbrev pub is_blank : ℕ → Bool
is_blank c = (c == 32) || (c == 9)

abbrev pub trimmed_start : List ℕ → List ℕ
trimmed_start text = drop (prefix_len is_blank text) text

abbrev pub trimmed_end : List ℕ → List ℕ
trimmed_end text = take (length text - suffix_len is_blank text) text

-- the text without the spaces and tabs at both ends
abbrev pub trimmed : List ℕ → List ℕ
trimmed text = trimmed_end (trimmed_start text)

-- a piece: its place among all pieces, its name, and the value behind its first `=`, where it has one
pub record FlagPiece : Type 0 where
  pub place : ℕ
  pub name : List ℕ
  pub value : Option (List ℕ)

-- a piece that is cut at this place
abbrev pub piece_cut : ℕ → List ℕ → Option ℕ → FlagPiece
piece_cut place text None = record { place = place; name = trimmed text; value = None }
piece_cut place text (Some at) =
    record {
      place = place;
      name = trimmed (take at text);
      value = Some (trimmed (drop (at + 1) text));
    }

-- the piece with this place and text, cut at its first `=`
abbrev pub piece_of : ℕ × List ℕ → FlagPiece
piece_of p = piece_cut p.0 p.1 (position (λ c. c == 61) p.1)

-- the pieces with these texts, but for the empty ones: places count all of them, from 1
abbrev pub pieces_of : List (List ℕ) → List FlagPiece
pieces_of texts = map piece_of (filter (λ p. not (length p.1 == 0)) (enumerate_from 1 texts))

-- the pieces of a text between its commas
abbrev pub pieces : List ℕ → List FlagPiece
pieces text = pieces_of (map trimmed (slice_split (λ c. c == 44) text))

-- for each name its last piece, in order: a piece is left out where a later one has its name
abbrev pub last_pieces : List FlagPiece → List FlagPiece
last_pieces [] = []
last_pieces (p ∷ ps) =
    (if list_any (λ q. bytes_eq q.name p.name) ps then last_pieces ps else p ∷ last_pieces ps)
