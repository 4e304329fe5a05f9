-- Where the pair of an id stands among pairs in order, or belongs.
use Rattle.std.specs.Prelude.{◌≡◌, ℕ, ◌≤◌, List, length, Result, Ok, Err, Some, take, All}
use Rattle.std.specs.List.{slice_get}
use Rattle.fields.specs.Order.{IsBelow}
use Rattle.fields.specs.declared.map.FieldPair.{FieldPair}

abbrev pub AreBelow : List ℕ → List FieldPair → Type 0
AreBelow id pairs = All (λ p. IsBelow p.id id) pairs

pub record IsAt (pairs : List FieldPair) (id : List ℕ) (i : ℕ) : Type 0 where
  pub pair : FieldPair
  pub there : slice_get pairs i ≡ Some pair
  pub named : pair.id ≡ id
  pub before : AreBelow id (take i pairs)

pub record IsBefore (pairs : List FieldPair) (id : List ℕ) (i : ℕ) : Type 0 where
  pub within : i ≤ length pairs
  pub before : AreBelow id (take i pairs)
  pub next : (p : FieldPair) → slice_get pairs i ≡ Some p → IsBelow id p.id

abbrev pub IsPlaceOf : List FieldPair → List ℕ → Result ℕ ℕ → Type 0
IsPlaceOf pairs id (Ok i) = IsAt pairs id i
IsPlaceOf pairs id (Err i) = IsBefore pairs id i
