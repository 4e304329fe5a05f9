-- What a server keeps: objects by their keys; the revision; and how many records its store has, among them those of kinds
-- that the release doesn't know. No record and no disk occurs here.
use Rattle.std.specs.Prelude.{◌≡◌, ℕ, ◌+◌, ◌-◌, ◌^◌, ◌<◌, ◌≤◌, List, Option, Some, None}
use Rattle.object_state.specs.Objects.{HasKey, IsChanged}
use Rattle.object_state.specs.declared.object.Object.{Object}
use Rattle.object_state.specs.declared.object.Stored.{Stored}
use Rattle.object_state.specs.declared.object.Change.{Change}

-- the objects, which the type of a state keeps in key order, the revision of the store, and the
-- count of its records
pub record State : Type 0 where
  pub objects : List Stored
  pub revision : ℕ
  pub records : ℕ

-- an object that comes is one record more, and one that goes is one less
pub record IsCounted (old : State) (change : Change) (new : State) : Type 0 where
  pub comes : (object : Object) → change.object ≡ Some object
      → ¬ HasKey old.objects change.key → new.records ≡ old.records + 1
  pub stays : (object : Object) → change.object ≡ Some object
      → HasKey old.objects change.key → new.records ≡ old.records
  pub goes : change.object ≡ None → new.records ≡ old.records - 1

-- the state after a change, which is the next revision
pub record IsApplied (old : State) (change : Change) (new : State) : Type 0 where
  pub revision : new.revision ≡ old.revision + 1
  pub objects : IsChanged old.objects change new.objects
  pub records : IsCounted old change new

-- the state after a request that makes this change, or none
abbrev pub IsNext : State → Option Change → State → Type 0
IsNext old None new = new ≡ old
IsNext old (Some change) new = IsApplied old change new

-- ---- a state at work

-- a state, and for how many more objects there is room that was taken: 0 or 1
pub record StateRecord : Type 0 where
  pub state : State
  pub spare : ℕ

-- The change may be made. A removal is of a key that is there. A new key has its room. The next revision and one record
-- more can be counted.
pub record MayApply (s : StateRecord) (change : Change) : Type 0 where
  pub held : change.object ≡ None → HasKey s.state.objects change.key
  pub room : ¬ HasKey s.state.objects change.key → 1 ≤ s.spare
  pub revision : s.state.revision + 1 < 2 ^ 64
  pub records : s.state.records + 1 < 2 ^ 64
