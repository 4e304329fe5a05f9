-- The fields that an object is given by draws. Each definition takes the state from which it begins to draw.
use Rattle.std.specs.Prelude.{ℕ, ◌==◌, ◌||◌, Bool, if◌then◌else◌, pos, List, [], ◌∷◌, ◌++◌, take, codes, decimal}
use Rattle.fields.specs.declared.map.FieldPair.{FieldPair}
use Rattle.fields.specs.declared.table.FieldRow.{FieldRow}
use Rattle.fields.specs.declared.value.FieldType.{FieldType}
use Rattle.fields.specs.declared.value.FieldType.TheVariants.{Bool as BoolType, Int as IntType, Text as TextType, TextList as ListType}
use Rattle.fields.specs.declared.value.FieldValue.{FieldValue}
use Rattle.fields.specs.declared.value.FieldValue.TheVariants.{Bool as Truth, Int, Text, List as Texts}
use Rattle.workload.specs.Draws.{next, draw}

-- a value of the type, by one draw
abbrev pub value_of : FieldType → ℕ → FieldValue
value_of BoolType x = Truth (draw 2 x == 1)
value_of IntType x = Int (pos (draw 1000 x))
value_of TextType x = Text (codes "t" ++ decimal (draw 100 x))
value_of ListType x = Texts (take (draw 3 x) (codes "l0" ∷ codes "l1" ∷ []))

-- a required field has a value; whether another has one is drawn
abbrev pub has_value : FieldRow → ℕ → Bool
has_value row x = row.required || (draw 2 x == 1)

-- the state behind the choice whether there is a value
abbrev pub behind_choice : FieldRow → ℕ → ℕ
behind_choice row x = if row.required then x else next x

-- the field, if it has a value
abbrev pub field_of : FieldRow → ℕ → List FieldPair
field_of row x =
    if has_value row x
    then (record { id = row.id; value = value_of row.ty (behind_choice row x) }) ∷ []
    else []

abbrev pub behind_field : FieldRow → ℕ → ℕ
behind_field row x = if has_value row x then next (behind_choice row x) else behind_choice row x

-- the fields that have values, one row after another
abbrev pub fields_of : List FieldRow → ℕ → List FieldPair
fields_of [] x = []
fields_of (row ∷ rows) x = field_of row x ++ fields_of rows (behind_field row x)

abbrev pub behind_fields : List FieldRow → ℕ → ℕ
behind_fields [] x = x
behind_fields (row ∷ rows) x = behind_fields rows (behind_field row x)
