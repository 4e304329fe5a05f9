-- Why JSON is no value of a field.
use Rattle.std.specs.Prelude.{ℕ, List, codes}
use Rattle.fields.specs.declared.field.Form.{Form}
use Rattle.fields.specs.declared.field.Form.TheVariants.{Same, Not, Decimal}
use Rattle.fields.specs.declared.value.FieldType.{FieldType}
use Rattle.fields.specs.declared.value.FieldType.TheVariants.{Bool, Int, Text, TextList}
use Rattle.conversion.specs.declared.fault.ReadCause.{ReadCause}
use Rattle.conversion.specs.declared.fault.ReadCause.TheVariants.{NotObject, NotBool, NotInt, NotText, NotList, NotDecimal}

-- what is said of a value that isn't of the field's type, in the form
abbrev pub cause_of : FieldType → Form → ReadCause
cause_of Bool form = NotBool
cause_of Int Same = NotInt
cause_of Int Not = NotInt
cause_of Int Decimal = NotDecimal
cause_of Text form = NotText
cause_of TextList form = NotList

-- the words in which a cause is told
abbrev pub cause_text : ReadCause → List ℕ
cause_text NotObject = codes "not an object"
cause_text NotBool = codes "not a boolean"
cause_text NotInt = codes "not a whole number"
cause_text NotText = codes "not a text"
cause_text NotList = codes "not a list of texts"
cause_text NotDecimal = codes "not a decimal"
