-- The words of types and forms, paths as texts, and values that stand in a document.
use Rattle.std.specs.Prelude.{ℕ, ◌==◌, List, Some, None, codes}
use Rattle.std.specs.declared.option.Option.{Option}
use Rattle.std.specs.List.{slice_split}
use Rattle.toml.specs.Data.{Data, string, integer, boolean}
use Rattle.fields.specs.declared.field.Form.{Form}
use Rattle.fields.specs.declared.field.Form.TheVariants.{Same, Not, Decimal}
use Rattle.fields.specs.declared.value.FieldType.{FieldType}
use Rattle.fields.specs.declared.value.FieldType.TheVariants as type
use Rattle.fields.specs.declared.value.FieldValue.{FieldValue}
use Rattle.fields.specs.declared.value.FieldValue.TheVariants as value

abbrev pub type_word : FieldType → List ℕ
type_word type.Bool = codes "Bool"
type_word type.Int = codes "Int"
type_word type.Text = codes "Text"
type_word type.TextList = codes "TextList"

abbrev pub form_word : Form → List ℕ
form_word Same = codes "Same"
form_word Not = codes "Not"
form_word Decimal = codes "Decimal"

-- the path that a text tells: what stands between its dots
abbrev pub path_in : List ℕ → List (List ℕ)
path_in text = slice_split (λ c. c == 46) text

-- the value of a field that a boolean, a whole number or a text is
abbrev pub scalar_in : Data → Option FieldValue
scalar_in (boolean b) = Some (value.Bool b)
scalar_in (integer z) = Some (value.Int z)
scalar_in (string s) = Some (value.Text s)
scalar_in _ = None
