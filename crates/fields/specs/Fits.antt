-- Maps that fit rows, and rows beside other rows: of the same fields, or fewer of them.
use Rattle.std.specs.Prelude.{◌≡◌, ◌≢◌, ℕ, Bool, List, map, None, All, Any, IfSome}
use Rattle.std.specs.List.{filter, list_any}
use Rattle.std.specs.Str.{bytes_eq}
use Rattle.fields.specs.Map.{IsMap, value_at}
use Rattle.fields.specs.Table.{IsValueOf}
use Rattle.fields.specs.declared.map.FieldPair.{FieldPair}
use Rattle.fields.specs.declared.table.FieldRow.{FieldRow}

-- the map holds fields of the rows alone, each with a value that it can hold
pub record Fits (rows : List FieldRow) (held : List FieldPair) : Type 0 where
  pub map : IsMap held
  pub each : All (λ row. IfSome (value_at held row.id) (IsValueOf row.ty)) rows
  pub only : (id : List ℕ) → All (λ row. row.id ≢ id) rows → value_at held id ≡ None

-- the rows are of the same fields
pub record AreOfSameFields (rows others : List FieldRow) : Type 0 where
  pub ids : map (λ row. row.id) rows ≡ map (λ row. row.id) others
  pub types : map (λ row. row.ty) rows ≡ map (λ row. row.ty) others

-- ---- fewer fields

-- the rows are one, but for whether they are on
pub record AreOneButOn (row other : FieldRow) : Type 0 where
  pub id : row.id ≡ other.id
  pub ty : row.ty ≡ other.ty
  pub required : row.required ≡ other.required
  pub path : row.path ≡ other.path
  pub form : row.form ≡ other.form
  pub default : row.default ≡ other.default

-- the rows are those of some ids among the others, but for which of them are on
abbrev pub KnowsLess : List FieldRow → List FieldRow → Type 0
KnowsLess rows others = All (λ row. Any (AreOneButOn row) others) rows

-- the id is that of a row
abbrev pub has_id : List FieldRow → List ℕ → Bool
has_id rows id = list_any (λ row. bytes_eq row.id id) rows

-- what the map holds of the fields of these rows
abbrev pub restricted : List FieldRow → List FieldPair → List FieldPair
restricted rows held = filter (λ pair. has_id rows pair.id) held
