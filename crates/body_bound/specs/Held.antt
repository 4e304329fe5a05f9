-- How many bytes the texts have that a map of fields holds, and what is read of a tree.
use Rattle.std.specs.Prelude.{ℕ, ◌+◌, ◌*◌, ◌≤◌, List, [], ◌∷◌, Option, Some, None, length}
use Rattle.body_bound.specs.Texts.{text_bytes}
use Rattle.conversion.specs.Reading.{Reads}
use Rattle.conversion.specs.declared.mode.Mode.{Mode}
use Rattle.fields.specs.Map.{value_at}
use Rattle.fields.specs.declared.map.FieldPair.{FieldPair}
use Rattle.fields.specs.declared.table.FieldRow.{FieldRow}
use Rattle.fields.specs.declared.value.FieldValue.{FieldValue}
use Rattle.fields.specs.declared.value.FieldValue.TheVariants.{Bool, Int, Text, List as Texts}
use Rattle.serde_json.specs.Data.{Data}

-- of texts, each with its quotes
abbrev pub list_bytes : List (List ℕ) → ℕ
list_bytes [] = 0
list_bytes (t ∷ ts) = length t + 2 + list_bytes ts

abbrev pub value_bytes : FieldValue → ℕ
value_bytes (Bool b) = 0
value_bytes (Int z) = 0
value_bytes (Text t) = length t + 2
value_bytes (Texts ts) = list_bytes ts

-- of what is held, if anything is
abbrev pub some_bytes : Option FieldValue → ℕ
some_bytes None = 0
some_bytes (Some value) = value_bytes value

-- of the fields of these rows
abbrev pub held_bytes : List FieldRow → List FieldPair → ℕ
held_bytes [] held = 0
held_bytes (row ∷ rows) held = some_bytes (value_at held row.id) + held_bytes rows held

-- what is read of the tree has no more texts than the tree has, and a default for each row: a text of
-- at most 1,024 bytes with its quotes
abbrev pub HoldsWithin : List FieldRow → Data → Type 0
HoldsWithin rows tree = (mode : Mode) (held : List FieldPair) → Reads mode rows tree held
    → held_bytes rows held ≤ text_bytes tree + 1026 * length rows
