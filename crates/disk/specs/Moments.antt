-- Moments: the values of a disk's clock. The moment that a call raised the clock to is the state after the call.
use Rattle.std.specs.Prelude.{◌≡◌, ◌↔◌, ℕ, ◌-◌, ◌^◌, ◌≤◌, ◌<◌, Result, IsErr}
use Rattle.disk.specs.Counted.{counted}
use Rattle.disk.specs.declared.file.File.{File}
use Rattle.disk.specs.Images.{Pending, Images}

-- The moments up to a call keep their images, and those that it adds have only such ones.
pub record Elapses (before now : ℕ) (past present : ℕ → Images → Type 0) (Added : ℕ → Images → Type 0) : Type 0 where
  pub later : before ≤ now
  pub kept : (t : ℕ) (images : Images) → t ≤ before → present t images ↔ past t images
  pub added : (t : ℕ) (images : Images) → before < t → t ≤ now → present t images → Added t images

-- the same of a run of calls
abbrev pub Moments : {D : Type 0} → (D → ℕ) → (D → ℕ → Images → Type 0) → D → D → (ℕ → Images → Type 0) → Type 0
Moments clock may_leave old new Added = Elapses (clock old) (clock new) (may_leave old) (may_leave new) Added

-- The clock of a call that writes, cuts or syncs: a u64, which rises by one. So each moment is the state after one
-- call. At its greatest value the clock stays, and the call fails.
pub record Ticks {T E : Type 0} (before now : ℕ) (result : Result T E) : Type 0 where
  pub later : before ≤ now
  pub by_one : now ≡ counted before
  pub ends : before ≡ 2 ^ 64 - 1 → IsErr result

-- a call that changes nothing of the files and of what a stop may leave
pub record Unchanged {D : Type 0} (clock : D → ℕ) (may_leave : D → ℕ → Images → Type 0) (held_by : D → Images)
    (pending_on : D → File → Pending) (old new : D) : Type 0 where
  pub held : held_by new ≡ held_by old
  pub pending : pending_on new ≡ pending_on old
  pub kept : (t : ℕ) (images : Images) → t ≤ clock old → may_leave new t images ↔ may_leave old t images
