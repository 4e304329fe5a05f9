-- What stands at a path of a JSON tree.
use Rattle.std.specs.Prelude.{◌≡◌, ◌≢◌, ◌⊎◌, ℕ, List, [], ◌∷◌, ◌++◌, Some, None}
use Rattle.serde_json.specs.Data.{Data, null, object, Members}
use Rattle.serde_json.specs.Find.{get}

-- the names of members, each within the one before
abbrev pub Names : Type 0
Names = List (List ℕ)

-- this is what the tree has at the path; at the empty path it has itself
abbrev pub Stands : Data → Names → Data → Type 0
Stands tree [] there = tree ≡ there
Stands tree (name ∷ path) there = (inner : Data) × (get name tree ≡ Some inner) × Stands inner path there

abbrev pub IsObject : Data → Type 0
IsObject tree = (ms : Members) × (tree ≡ object ms)

-- nothing stands at the path: one of its members is missing or null, and those before it are objects. A tree that isn't
-- an object has no members
pub record IsAbsent (tree : Data) (path : Names) : Type 0 where
  pub front : Names
  pub name : List ℕ
  pub rest : Names
  pub parts : path ≡ front ++ name ∷ rest
  pub within : Data
  pub stands : Stands tree front within
  pub object : (front ≡ []) ⊎ IsObject within
  pub missing : (get name within ≡ None) ⊎ (get name within ≡ Some null)

-- the path can't be followed: up to here, before its last member, there is something that is neither an object nor null
pub record IsBlocked (tree : Data) (path upto : Names) : Type 0 where
  pub rest : Names
  pub parts : path ≡ upto ++ rest
  pub some : upto ≢ []
  pub more : rest ≢ []
  pub there : Data
  pub stands : Stands tree upto there
  pub not_null : there ≢ null
  pub not_object : ¬ IsObject there
