-- Rows without a word on which are on: a row for each field that the version spells.
use Rattle.std.proofs.Common.{◌≡◌, ◌↔◌, inl, inr, ◌⊎◌, ℕ, Bool, true, false, IsTrue, Option, Some, None, List, All, Any, IfSome, Contains, get_or, refl}
use Rattle.std.proofs.lemmas.Bool.{false≢true}
use Rattle.std.proofs.lemmas.List.Elements.{Contains-get_or}
use Rattle.fields.specs.Table.{IdsRise}
use Rattle.fields.specs.declared.field.Field.{Field}
use Rattle.fields.specs.declared.field.Spell.{Spell}
use Rattle.fields.specs.declared.table.FieldRow.{FieldRow}
use Rattle.lifecycle.specs.Entry.{GroupVersionResource}
use Rattle.schemas.specs.Pairs.{IsSpelling}
use Rattle.schemas.specs.Rows.{IsSpelledAs, IsRow, AreRows}
use Rattle.schemas.proofs.DecisionLemmas.{decided}

-- the row gives one of the fields as it is spelled in the version
abbrev pub IsSpelledRow : List Field → List Spell → GroupVersionResource → FieldRow → Type 0
IsSpelledRow fields spells name row = Any (λ f. Any (λ s. IsSpelling f name s × IsSpelledAs f s row) spells) fields

-- the rows are those of the fields that the version spells, one for each, in order
pub record SpellFields (fields : List Field) (spells : List Spell) (name : GroupVersionResource) (rows : List FieldRow) : Type 0 where
  pub order : IdsRise rows
  pub each : All (IsSpelledRow fields spells name) rows
  pub whole : (f : Field) (s : Spell) → Contains fields f → Contains spells s → IsSpelling f name s → Any (λ row. row.id ≡ f.id) rows

-- whether the row of a field with this guard is on
guard_on : (IsOn : List ℕ → Type 0) → ((gate : List ℕ) → IsOn gate ⊎ ¬ IsOn gate) → (guard : Option (List ℕ)) → (b : Bool) × (IsTrue b ↔ IfSome guard IsOn)
guard_on IsOn decided None = (true, ((λ h. tt), (λ h. refl)))
guard_on IsOn decided (Some gate) = elim (decided gate) [
  | inl on ↦ (true, ((λ h. on), (λ h. refl)))
  | inr off ↦ (false, ((λ h. absurd (false≢true h)), (λ on. absurd (off on))))
]

-- a field that the version spells has its row
pub row_of : (IsOn : List ℕ → Type 0) → ((gate : List ℕ) → IsOn gate ⊎ ¬ IsOn gate)
    → (fields : List Field) (spells : List Spell) (name : GroupVersionResource) (rows : List FieldRow)
    → AreRows IsOn fields spells name rows → (f : Field) (s : Spell)
    → Contains fields f → Contains spells s → IsSpelling f name s → (row : FieldRow) × Contains rows row × IsSpelledAs f s row
row_of IsOn decided fields spells name rows are f s has_field has_spell spelled =
    let on = guard_on IsOn decided f.gate in
    let row : FieldRow = record { id = f.id; ty = f.ty; required = f.required; on = on.0; path = s.path; form = s.form; default = s.default } in
    let given : IsSpelledAs f s row = record { id = refl; ty = refl; required = refl; path = refl; form = refl; default = refl } in
    (row, (are.exact row).1 (has_field.0, f, has_field.1, has_field.2, (has_spell.0, s, has_spell.1, has_spell.2, (spelled, given, on.1))), given)

-- the rows of a version are those of the fields that it spells
pub spelled_rows : (IsOn : List ℕ → Type 0) → ((gate : List ℕ) → IsOn gate ⊎ ¬ IsOn gate)
    → (fields : List Field) (spells : List Spell) (name : GroupVersionResource) (rows : List FieldRow)
    → AreRows IsOn fields spells name rows → SpellFields fields spells name rows
spelled_rows IsOn decided fields spells name rows are = record {
  order = are.order;
  each = λ k d below.
      let is : IsRow IsOn fields spells name (get_or rows k d) = (are.exact (get_or rows k d)).0 (Contains-get_or rows k d below) in
      let inner = is.4 in
      (is.0, is.1, is.2, is.3, (inner.0, inner.1, inner.2, inner.3, (inner.4.0, inner.4.1)));
  whole = λ f s has_field has_spell spelled.
      let made = row_of IsOn decided fields spells name rows are f s has_field has_spell spelled in
      (made.1.0, made.0, made.1.1, made.1.2, made.2.id);
}

-- a test decides
pub test_decided : (is_on : List ℕ → Bool) (gate : List ℕ) → IsTrue (is_on gate) ⊎ ¬ IsTrue (is_on gate)
test_decided is_on gate = decided (is_on gate) ((λ h. h), (λ h. h))
