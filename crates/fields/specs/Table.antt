-- The rows of a table: how a version of a resource spells its fields, and which rows are lawful.
use Rattle.std.specs.Prelude.{ℕ, ◌≡◌, ◌≢◌, ◌≤◌, ◌<◌, ℤ, FitsSigned, List, ◌++◌, length, map, codes, All, AllPairs, IfSome}
use Rattle.std.specs.Int.{w64}
use Rattle.std.specs.List.{slice_get}
use Rattle.basis.specs.Names.{BeginsLower, IsLetterOrDigit}
use Rattle.fields.specs.Order.{Rises}
use Rattle.fields.specs.declared.field.Form.{Form}
use Rattle.fields.specs.declared.field.Form.TheVariants.{Same, Not, Decimal}
use Rattle.fields.specs.declared.table.FieldRow.{FieldRow}
use Rattle.fields.specs.declared.value.FieldType.{FieldType}
use Rattle.fields.specs.declared.value.FieldType.TheVariants.{Bool as BoolType, Int as IntType, Text as TextType, TextList as ListType}
use Rattle.fields.specs.declared.value.FieldValue.{FieldValue}
use Rattle.fields.specs.declared.value.FieldValue.TheVariants.{Bool, Int, Text, List as Texts}

-- the rows stand in rising byte order of id
abbrev pub IdsRise : List FieldRow → Type 0
IdsRise rows = Rises (map (λ r. r.id) rows)

-- ---- paths

-- one to eight names of members, each a lower-case letter and then letters and digits, of at most
-- 32 bytes
pub record IsPath (path : List (List ℕ)) : Type 0 where
  pub some : 0 < length path
  pub few : length path ≤ 8
  pub names : All (BeginsLower 32 IsLetterOrDigit) path

-- the members that each object has whatever its fields are
pub record IsFree (name : List ℕ) : Type 0 where
  pub not_version : name ≢ codes "apiVersion"
  pub not_kind : name ≢ codes "kind"
  pub not_metadata : name ≢ codes "metadata"

-- a path of a field leads into none of these
abbrev pub IsFieldPath : List (List ℕ) → Type 0
IsFieldPath path = IsPath path × IfSome (slice_get path 0) IsFree

-- the first path leads through the second one, or is it
abbrev pub LeadsThrough : List (List ℕ) → List (List ℕ) → Type 0
LeadsThrough path front = (rest : List (List ℕ)) × (path ≡ front ++ rest)

-- neither path leads through the other, so that both can have a value in one object
pub record AreApart (one other : List (List ℕ)) : Type 0 where
  pub not_through : ¬ LeadsThrough one other
  pub not_within : ¬ LeadsThrough other one

-- ---- values

-- a whole number of 64 bits
abbrev pub IsInt64 : ℤ → Type 0
IsInt64 z = FitsSigned w64 z

-- what a field can hold: a whole number has 64 bits
abbrev pub IsValue : FieldValue → Type 0
IsValue (Bool b) = Unit {0}
IsValue (Int z) = IsInt64 z
IsValue (Text t) = Unit {0}
IsValue (Texts ts) = Unit {0}

abbrev pub type_of : FieldValue → FieldType
type_of (Bool b) = BoolType
type_of (Int z) = IntType
type_of (Text t) = TextType
type_of (Texts ts) = ListType

-- a field of the type can hold the value
pub record IsValueOf (ty : FieldType) (value : FieldValue) : Type 0 where
  pub typed : type_of value ≡ ty
  pub whole : IsValue value

-- ---- forms and defaults (HR16)

-- a value of the type can be written in the form
abbrev pub IsFormOf : FieldType → Form → Type 0
IsFormOf ty Same = Unit {0}
IsFormOf ty Not = ty ≡ BoolType
IsFormOf ty Decimal = ty ≡ IntType

-- a text of at most 1,024 bytes, or no text
abbrev pub IsShort : FieldValue → Type 0
IsShort (Bool b) = Unit {0}
IsShort (Int z) = Unit {0}
IsShort (Text t) = length t ≤ 1024
IsShort (Texts ts) = Unit {0}

-- a field of the type may have this default
pub record IsDefaultOf (ty : FieldType) (value : FieldValue) : Type 0 where
  pub typed : type_of value ≡ ty
  pub whole : IsValue value
  pub not_list : ty ≢ ListType
  pub short : IsShort value

-- ---- tables

-- what a row says by itself
pub record IsLawfulRow (row : FieldRow) : Type 0 where
  pub path : IsFieldPath row.path
  pub form : IsFormOf row.ty row.form
  pub default : IfSome row.default (IsDefaultOf row.ty)

-- at most 64 rows, each of them lawful, and no two paths in each other's way
pub record AreLawful (rows : List FieldRow) : Type 0 where
  pub few : length rows ≤ 64
  pub each : All IsLawfulRow rows
  pub apart : AllPairs (λ one other. AreApart one.path other.path) rows
