-- Which releases a binary may emulate, and for which it may write its store (after KEP-4330).
use Rattle.std.specs.Prelude.{ℕ, ◌-◌, ◌≤◌, max}

-- the lowest release that a binary emulates: three below its last one, but not below its first
abbrev pub floor_of : ℕ → ℕ → ℕ
floor_of first last = max first (last - 3)

-- a binary whose history goes from first to last may emulate the release e
abbrev pub IsEmulable : ℕ → ℕ → ℕ → Type 0
IsEmulable first last e = (floor_of first last ≤ e) × (e ≤ last)

-- and, emulating e, may write its store so that the release m opens it
abbrev pub IsMinimum : ℕ → ℕ → ℕ → ℕ → Type 0
IsMinimum first last e m = (floor_of first last ≤ m) × (m ≤ e)
