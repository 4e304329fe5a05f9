-- The rows of a version's table: a row for each field of its resource, as the version spells it.
use Rattle.std.specs.Prelude.{◌≡◌, ◌↔◌, ℕ, Bool, List, Any, Contains, IfSome, IsTrue}
use Rattle.fields.specs.Table.{IdsRise}
use Rattle.fields.specs.declared.field.Field.{Field}
use Rattle.fields.specs.declared.field.Spell.{Spell}
use Rattle.fields.specs.declared.table.FieldRow.{FieldRow}
use Rattle.lifecycle.specs.Entry.{GroupVersionResource}
use Rattle.schemas.specs.Cutoff.{fields_by, spells_by}
use Rattle.schemas.specs.Dated.{Dated}
use Rattle.schemas.specs.Pairs.{IsSpelling}

-- the row gives the field as it is spelled
pub record IsSpelledAs (f : Field) (s : Spell) (row : FieldRow) : Type 0 where
  pub id : row.id ≡ f.id
  pub ty : row.ty ≡ f.ty
  pub required : row.required ≡ f.required
  pub path : row.path ≡ s.path
  pub form : row.form ≡ s.form
  pub default : row.default ≡ s.default

-- the row gives one of the fields as it is spelled in the version, and is on if no gate guards the
-- field or the gate is on
abbrev pub IsRow : (List ℕ → Type 0) → List Field → List Spell → GroupVersionResource → FieldRow
    → Type 0
IsRow IsOn fields spells name row =
    Any (λ f. Any (λ s.
    IsSpelling f name s × IsSpelledAs f s row × (IsTrue row.on ↔ IfSome f.gate IsOn)) spells) fields

-- the rows of the version, each once, in order
pub record AreRows (IsOn : List ℕ → Type 0) (fields : List Field) (spells : List Spell)
    (name : GroupVersionResource) (rows : List FieldRow) : Type 0 where
  pub order : IdsRise rows
  pub exact : (row : FieldRow) → Contains rows row ↔ IsRow IsOn fields spells name row

-- the rows of the version by what the release knows, where the test says which gates are on
abbrev pub AreRowsAt : Dated → (List ℕ → Bool) → GroupVersionResource → ℕ → List FieldRow → Type 0
AreRowsAt h is_on name e rows =
    AreRows (λ gate. IsTrue (is_on gate)) (fields_by h.fields e) (spells_by h.spells e) name rows
