-- The text of a history's document: a line for each entry.
use Rattle.std.specs.Prelude.{ℕ, List, [], ◌∷◌, ◌++◌, Some, None, map, if◌then◌else◌, codes}
use Rattle.std.specs.declared.option.Option.{Option}
use Rattle.std.specs.List.{flat_map}
use Rattle.std.specs.Fmt.{signed_decimal}
use Rattle.toml.specs.Data.{Data, string, integer, boolean}
use Rattle.toml_writer.specs.Text.{string_text}
use Rattle.minor_version.specs.Release.{release_text}
use Rattle.schemas.specs.Dated.{Dated}
use Rattle.history_toml.specs.Tables.{Pair, gate_pairs, api_pairs, field_pairs, spell_pairs}

-- a text, a whole number or a boolean
abbrev pub scalar_text : Data → List ℕ
scalar_text (string s) = string_text s
scalar_text (integer z) = signed_decimal z
scalar_text (boolean b) = if b then codes "true" else codes "false"
scalar_text _ = []

abbrev pub pair_text : Pair → List ℕ
pair_text p = p.0 ++ (codes " = " ++ scalar_text p.1)

-- a table on one line
abbrev pub row_text : List Pair → List ℕ
row_text [] = codes "{}"
row_text (p ∷ ps) = codes "{ " ++ (pair_text p ++ (flat_map (λ q. codes ", " ++ pair_text q) ps ++ codes " }"))

-- an array of tables, each on a line of its own
abbrev pub array_text : List ℕ → List (List Pair) → List ℕ
array_text name rows =
    name ++ (codes " = [\n" ++ (flat_map (λ row. codes " " ++ (row_text row ++ codes ",\n")) rows ++ codes "]\n"))

-- a release on a line of its own, if there is one
abbrev pub release_line : List ℕ → Option ℕ → List ℕ
release_line name None = []
release_line name (Some k) = name ++ (codes " = " ++ (string_text (release_text k) ++ codes "\n"))

abbrev pub history_text : Dated → List ℕ
history_text h =
    release_line (codes "first") h.first
    ++ (release_line (codes "last") h.last
    ++ (array_text (codes "gate") (map gate_pairs h.gates)
    ++ (array_text (codes "api") (map api_pairs h.apis)
    ++ (array_text (codes "field") (map field_pairs h.fields)
    ++ array_text (codes "spell") (map spell_pairs h.spells)))))
