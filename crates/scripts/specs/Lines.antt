-- The lines of a text. Each ends at a line feed, but the last one may end with the text.
use Rattle.std.specs.Prelude.{ℕ, ◌-◌, ◌==◌, List, [], length, take, slice_index, if◌then◌else◌}
use Rattle.std.specs.List.{slice_split}

-- the text without the line feed at its end, if it has one
abbrev pub unended : List ℕ → List ℕ
unended text =
    (if slice_index text (length text - 1) == 10 then take (length text - 1) text else text)

-- the lines, without their line feeds; the empty text has none
abbrev pub lines : List ℕ → List (List ℕ)
lines text = (if length text == 0 then [] else slice_split (λ c. c == 10) (unended text))
