-- A finite map from ids to values, as the list of its pairs in rising byte order of id. A map has
-- one such list.
use Rattle.std.specs.Prelude.{◌≡◌, ◌≢◌, ℕ, List, [], ◌∷◌, map, Option, Some, None, if◌then◌else◌}
use Rattle.std.specs.Str.{bytes_eq}
use Rattle.fields.specs.Order.{Rises}
use Rattle.fields.specs.declared.map.FieldPair.{FieldPair}
use Rattle.fields.specs.declared.value.FieldValue.{FieldValue}

abbrev pub IsMap : List FieldPair → Type 0
IsMap pairs = Rises (map (λ p. p.id) pairs)

-- the value that the map holds at the id
abbrev pub value_at : List FieldPair → List ℕ → Option FieldValue
value_at [] id = None
value_at (p ∷ ps) id = if bytes_eq p.id id then Some p.value else value_at ps id

-- both maps hold the same at each id
abbrev pub AreAlike : List FieldPair → List FieldPair → Type 0
AreAlike pairs others = (id : List ℕ) → value_at pairs id ≡ value_at others id

-- the new map has this at the id, and else is as the old one
pub record IsChangedAt (id : List ℕ) (value : Option FieldValue)
    (old new : List FieldPair) : Type 0 where
  pub here : value_at new id ≡ value
  pub others : (other : List ℕ) → other ≢ id → value_at new other ≡ value_at old other
