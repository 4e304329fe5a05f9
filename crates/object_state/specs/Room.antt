-- Objects in a list that is made at the first room.
use Rattle.std.specs.Prelude.{◌+◌, ◌≤◌, List, [], Option, Some, None, vec_len}
use Rattle.std.specs.Option.{option_map_or}
use Rattle.std.specs.Global.{Vec}
use Rattle.std.specs.Vec.{vec_capacity}
use Rattle.object_state.specs.declared.object.Stored.{Stored}

-- the objects, of which there are none before the list is made
abbrev pub objects_in : Option (Vec Stored) → List Stored
objects_in objects = option_map_or (λ v. v.items) objects []

-- there is room for one more
abbrev pub HasRoom : Option (Vec Stored) → Type 0
HasRoom None = ⊥
HasRoom (Some v) = vec_len v + 1 ≤ vec_capacity v
