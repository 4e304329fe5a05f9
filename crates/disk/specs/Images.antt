-- The disk model: what a stop may leave of a file, by its bytes at its last good sync and what was done to it since.
use Rattle.std.specs.Prelude.{◌≡◌, ℕ, ◌+◌, ◌^◌, ◌≤◌, ◌<◌, max, min, Bool, true, false, ◌&&◌, ◌||◌, nat_le, nat_lt, if◌then◌else◌, List, ◌++◌, length, get_or, take, drop, IsFalse}
use Rattle.disk.specs.declared.file.File.{File}
use Rattle.disk.specs.declared.file.File.TheVariants.{Choice, Left, Right}

-- the bytes at the last good sync; the least and the greatest length since; the places that a write covered since, or a
-- cut went to or below
pub record Pending : Type 0 where
  pub base : List ℕ
  pub least : ℕ
  pub greatest : ℕ
  pub free : ℕ → Bool

-- An image has any length that the file may have had, and the bytes of the last good sync where nothing was done to
-- them. All other bytes are any bytes.
pub record IsImage (p : Pending) (image : List ℕ) : Type 0 where
  pub no_shorter : p.least ≤ length image
  pub no_longer : length image ≤ p.greatest
  pub same : (k : ℕ) → k < length p.base → k < length image → IsFalse (p.free k) → get_or image k 0 ≡ get_or p.base k 0

-- nothing is pending
abbrev pub resting : List ℕ → Pending
resting bytes = record { base = bytes; least = length bytes; greatest = length bytes; free = λ _. false }

-- the places of a write of n bytes
abbrev pub covers : ℕ → ℕ → ℕ → Bool
covers at n k = nat_le at k && nat_lt k (at + n)

-- no file reaches this length
abbrev pub end_of_lengths : ℕ
end_of_lengths = 2 ^ 63

-- the greatest length after a write of n bytes: one that would reach the end of lengths changes none
abbrev pub reached : ℕ → ℕ → ℕ → ℕ
reached at n greatest = if nat_lt (at + n) end_of_lengths then max greatest (at + n) else greatest

-- a write of n bytes, whether it was good or failed
abbrev pub after_write : ℕ → ℕ → Pending → Pending
after_write at n p = record { base = p.base; least = p.least; greatest = reached at n p.greatest; free = λ k. p.free k || covers at n k }

-- a cut, whether it was good or failed
abbrev pub after_cut : ℕ → Pending → Pending
after_cut to p = record { base = p.base; least = min p.least to; greatest = p.greatest; free = λ k. p.free k || nat_le to k }

-- no more is pending in p than in q
pub record Within (p q : Pending) : Type 0 where
  pub base : p.base ≡ q.base
  pub least : q.least ≤ p.least
  pub greatest : p.greatest ≤ q.greatest
  pub free : (k : ℕ) → IsFalse (q.free k) → IsFalse (p.free k)

-- what a stop leaves of the three files
abbrev pub Images : Type 0
Images = File → List ℕ

abbrev pub Each : (File → Pending) → Images → Type 0
Each pending images = (f : File) → IsImage (pending f) (images f)

-- a file of which nothing is pending
abbrev pub IsStill : Images → (File → Pending) → File → Type 0
IsStill held pending f = Within (pending f) (resting (held f))

abbrev pub same_file : File → File → Bool
same_file Choice Choice = true
same_file Left Left = true
same_file Right Right = true
same_file _ _ = false

-- a step of one file
abbrev pub at_file : File → (Pending → Pending) → (File → Pending) → File → Pending
at_file file step pending f = if same_file f file then step (pending f) else pending f

-- the other files hold what they held
abbrev pub OthersHold : File → Images → Images → Type 0
OthersHold file old new = (f : File) → same_file f file ≡ false → new f ≡ old f

-- of the other files no more is pending
abbrev pub OthersWithin : File → (File → Pending) → (File → Pending) → Type 0
OthersWithin file old new = (f : File) → same_file f file ≡ false → Within (new f) (old f)

-- no more is pending than after this step of the file
abbrev pub Becomes : File → (Pending → Pending) → (File → Pending) → (File → Pending) → Type 0
Becomes file step old new = (f : File) → Within (new f) (at_file file step old f)

-- the bytes stand at this place, over what was there and beyond the end
abbrev pub patched : List ℕ → ℕ → List ℕ → List ℕ
patched old at bytes = take at old ++ bytes ++ drop (at + length bytes) old
