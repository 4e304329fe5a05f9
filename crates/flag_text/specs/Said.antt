-- What the pieces of a flag text say.
use Rattle.std.specs.Prelude.{◌≡◌, ℕ, Bool, List, find, Option, option_map, option_and_then}
use Rattle.std.specs.Ordering.{nat_cmp}
use Rattle.std.specs.Str.{bytes_eq}
use Rattle.std.specs.Cmp.Lexicographic.{slice_cmp}
use Rattle.std.specs.BTreeMap.{BTreeMap, get}
use Rattle.flag_text.specs.Words.{bool_of}
use Rattle.flag_text.specs.Pieces.{FlagPiece, last_pieces}
use Rattle.flag_text.specs.declared.vocabulary.Vocabulary.{Vocabulary}

-- the boolean of a piece, where it has a `=` and a boolean word
abbrev pub said : Vocabulary → FlagPiece → Option Bool
said words p = option_and_then (bool_of words) p.value

-- the boolean that the last piece of this name says
abbrev pub last_said : Vocabulary → List FlagPiece → List ℕ → Option Bool
last_said words ps name =
    option_and_then (said words) (find (λ p. bytes_eq p.name name) (last_pieces ps))

-- the map has the boolean of the last piece of each name
abbrev pub HasSaid : Vocabulary → List FlagPiece → BTreeMap (List ℕ) (Option Bool) → Type 0
HasSaid words ps booleans =
    (name : List ℕ) → get (slice_cmp nat_cmp) booleans name ≡
    option_map (said words) (find (λ p. bytes_eq p.name name) (last_pieces ps))

-- what the map has under the name
abbrev pub said_in : BTreeMap (List ℕ) (Option Bool) → List ℕ → Option Bool
said_in booleans name = option_and_then (λ b. b) (get (slice_cmp nat_cmp) booleans name)
