-- How values of fields are written as JSON, in each form.
use Rattle.std.specs.Prelude.{◌≡◌, map, not}
use Rattle.std.specs.Fmt.{signed_decimal}
use Rattle.fields.specs.Table.{IsInt64, type_of}
use Rattle.fields.specs.declared.field.Form.{Form}
use Rattle.fields.specs.declared.field.Form.TheVariants.{Same, Not, Decimal}
use Rattle.fields.specs.declared.table.FieldRow.{FieldRow}
use Rattle.fields.specs.declared.value.FieldValue.{FieldValue}
use Rattle.fields.specs.declared.value.FieldValue.TheVariants.{Bool, Int, Text, List as Texts}
use Rattle.serde_json.specs.Data.{Data, boolean, number, string, array}
use Rattle.serde_json.specs.Find.{of_integer}
use Rattle.serde_json.specs.View.{items_of}

-- the JSON is the value in the form. `Not` is a form of booleans, and `Decimal` of whole numbers: their decimal text,
-- with a minus sign below 0
abbrev pub IsWrittenIn : Form → FieldValue → Data → Type 0
IsWrittenIn Same (Bool b) json = json ≡ boolean b
IsWrittenIn Same (Int z) json = IsInt64 z × (json ≡ number (of_integer z))
IsWrittenIn Same (Text t) json = json ≡ string t
IsWrittenIn Same (Texts ts) json = json ≡ array (items_of (map string ts))
IsWrittenIn Not (Bool b) json = json ≡ boolean (not b)
IsWrittenIn Not (Int z) json = ⊥
IsWrittenIn Not (Text t) json = ⊥
IsWrittenIn Not (Texts ts) json = ⊥
IsWrittenIn Decimal (Bool b) json = ⊥
IsWrittenIn Decimal (Int z) json = IsInt64 z × (json ≡ string (signed_decimal z))
IsWrittenIn Decimal (Text t) json = ⊥
IsWrittenIn Decimal (Texts ts) json = ⊥

-- the JSON is a value of the row's field, as the row spells it
pub record Spells (row : FieldRow) (value : FieldValue) (json : Data) : Type 0 where
  pub typed : type_of value ≡ row.ty
  pub written : IsWrittenIn row.form value json
