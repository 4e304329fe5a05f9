-- What a stop is made to leave of a file.
use Rattle.std.specs.Prelude.{◌≡◌, ◌⊎◌, ℕ, ◌%◌, ◌≤◌, ◌<◌, List, length, get_or, IsFalse, IsTrue}
use Rattle.disk.specs.Images.{Pending}
use Rattle.disk.specs.MemDisk.{State}

-- the greatest length, with this byte at every place that may hold any byte
pub record IsFilled (byte : ℕ) (p : Pending) (image : List ℕ) : Type 0 where
  pub size : length image ≡ p.greatest
  pub kept : (k : ℕ) → k < length p.base → k < p.greatest → IsFalse (p.free k) → get_or image k 0 ≡ get_or p.base k 0
  pub filled : (k : ℕ) → k < p.greatest → (length p.base ≤ k) ⊎ IsTrue (p.free k) → get_or image k 0 ≡ byte

-- 0 loses what is pending, 1 keeps it, and any other number fills what is free
pub record IsPicked (pick : ℕ) (s : State) (image : List ℕ) : Type 0 where
  pub lost : pick ≡ 0 → image ≡ s.pending.base
  pub kept : pick ≡ 1 → image ≡ s.held
  pub filled : 1 < pick → IsFilled (pick % 256) s.pending image

-- what is left while the calls of a file are gone through: its bytes at the last good sync, or those with what is free
-- filled
pub record IsLeft (pick : ℕ) (p : Pending) (left : List ℕ) : Type 0 where
  pub lost : pick ≤ 1 → left ≡ p.base
  pub filled : 1 < pick → IsFilled (pick % 256) p left
