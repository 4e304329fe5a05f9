-- What is kept of a new object's fields where some are off (the rule on disabled fields in Kubernetes' document on API changes).
use Rattle.std.specs.Prelude.{◌≡◌, ◌↔◌, ◌⊎◌, ℕ, List, false, Option, Some, Any, IsSome, IsSomeAnd}
use Rattle.fields.specs.Map.{IsMap, value_at}
use Rattle.fields.specs.declared.map.FieldPair.{FieldPair}
use Rattle.fields.specs.declared.table.FieldRow.{FieldRow}
use Rattle.fields.specs.declared.value.FieldValue.{FieldValue}

-- the field has a row that isn't on
abbrev pub IsOff : List FieldRow → List ℕ → Type 0
IsOff rows id = Any (λ row. (row.id ≡ id) × (row.on ≡ false)) rows

-- the stored object, if there is one, holds the field
abbrev pub IsStored : Option (List FieldPair) → List ℕ → Type 0
IsStored old id = IsSomeAnd old (λ held. IsSome (value_at held id))

-- kept is what the new map holds of fields that aren't off, or that the stored object holds too
pub record AreKept (rows : List FieldRow) (old : Option (List FieldPair)) (new kept : List FieldPair) : Type 0 where
  pub map : IsMap kept
  pub exact : (id : List ℕ) (value : FieldValue) →
      (value_at kept id ≡ Some value) ↔ ((value_at new id ≡ Some value) × (¬ IsOff rows id ⊎ IsStored old id))
