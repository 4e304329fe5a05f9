-- The object that shows what a map holds: the least one in which each held field stands at its path.
use Rattle.std.specs.Prelude.{◌≢◌, ℕ, List, [], ◌∷◌, All, Any, IfSome, IsSome}
use Rattle.fields.specs.Map.{value_at}
use Rattle.fields.specs.Order.{Rises}
use Rattle.fields.specs.Table.{LeadsThrough}
use Rattle.fields.specs.declared.map.FieldPair.{FieldPair}
use Rattle.fields.specs.declared.table.FieldRow.{FieldRow}
use Rattle.serde_json.specs.Data.{Data, null, boolean, number, string, array, object, Members, no_members, member}
use Rattle.conversion.specs.Trees.{Names, Stands, IsObject}
use Rattle.conversion.specs.Reading.{IsHeld}

abbrev pub names_of : Members → List (List ℕ)
names_of no_members = []
names_of (member name json ms) = name ∷ names_of ms

-- each object in the tree has its members in rising byte order of name
abbrev mutual
  pub IsInOrder : Data → Type 0
  IsInOrder null = Unit {0}
  IsInOrder (boolean b) = Unit {0}
  IsInOrder (number n) = Unit {0}
  IsInOrder (string s) = Unit {0}
  IsInOrder (array items) = Unit {0}
  IsInOrder (object ms) = Rises (names_of ms) × AreInOrder ms

  pub AreInOrder : Members → Type 0
  AreInOrder no_members = Unit {0}
  AreInOrder (member name json ms) = IsInOrder json × AreInOrder ms

-- the path is a way to a field that the map holds
abbrev pub LeadsToHeld : List FieldRow → List FieldPair → Names → Type 0
LeadsToHeld rows held path = Any (λ row. IsSome (value_at held row.id) × LeadsThrough row.path path) rows

-- the object has each held field at its path, and nothing but what is on the way to one
pub record Shows (rows : List FieldRow) (held : List FieldPair) (tree : Data) : Type 0 where
  pub object : IsObject tree
  pub each : All (λ row. IfSome (value_at held row.id) (IsHeld tree row)) rows
  pub least : (path : Names) (there : Data) → path ≢ [] → Stands tree path there → LeadsToHeld rows held path
  pub order : IsInOrder tree
