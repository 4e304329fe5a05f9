-- Objects by their keys, in key order.
use Rattle.std.specs.Prelude.{◌≡◌, ◌≢◌, ◌⊎◌, ◌↔◌, ℕ, List, Option, Some, None, Contains, filter}
use Rattle.object_journal.specs.declared.key.Key.{Key}
use Rattle.key_order.specs.Order as keyed
use Rattle.key_order.specs.Stretches.{is_of, is_inside}
use Rattle.object_state.specs.declared.object.Object.{Object}
use Rattle.object_state.specs.declared.object.Stored.{Stored}
use Rattle.object_state.specs.declared.object.Change.{Change}

-- the key of each is below those of the objects behind it
abbrev pub AreInKeyOrder : List Stored → Type 0
AreInKeyOrder objects = keyed.AreInKeyOrder (λ s. s.key) objects

-- the object is stored under the key
abbrev pub Holds : List Stored → Key → Object → Type 0
Holds objects key object = Contains objects (record { key = key; object = object })

-- some object is stored under the key
abbrev pub HasKey : List Stored → Key → Type 0
HasKey objects key = (object : Object) × Holds objects key object

-- this is stored under the key, if anything is
abbrev pub Finds : List Stored → Key → Option Object → Type 0
Finds objects key None = ¬ HasKey objects key
Finds objects key (Some object) = Holds objects key object

-- the objects of the group and resource
abbrev pub objects_of : List ℕ → List ℕ → List Stored → List Stored
objects_of group resource objects = filter (λ s. is_of group resource s.key) objects

-- the objects of the group, resource and namespace
abbrev pub objects_inside : List ℕ → List ℕ → List ℕ → List Stored → List Stored
objects_inside group resource namespace objects =
    filter (λ s. is_inside group resource namespace s.key) objects

-- an object is there exactly where the change leaves it at its key, or where it is of another key and was there
pub record IsChanged (old : List Stored) (change : Change) (new : List Stored) : Type 0 where
  pub order : AreInKeyOrder new
  pub exact : (key : Key) (object : Object) → Holds new key object
      ↔ (((key ≡ change.key) × (change.object ≡ Some object))
      ⊎ ((key ≢ change.key) × Holds old key object))
