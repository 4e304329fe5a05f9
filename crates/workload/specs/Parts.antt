-- Lists in slices, and bytes in pieces of a script.
use Rattle.std.specs.Prelude.{◌≡◌, ℕ, zero, suc, ◌*◌, Contains, List, [], ◌∷◌, ◌++◌, length, map, take, drop}
use Rattle.std.specs.Int.{div_ceil}
use Rattle.scripts.specs.declared.script.ScriptEvent.{ScriptEvent}
use Rattle.scripts.specs.Lawful.{opened}
use Rattle.scripts.specs.declared.script.ScriptEvent.TheVariants.{Piece, Close}

-- the slice of n elements behind k others; the last one may be shorter
abbrev pub slice_at : {A : Type 0} → ℕ → ℕ → List A → List A
slice_at n k xs = take n (drop (n * k) xs)

-- the first k slices
abbrev pub first_slices : {A : Type 0} → ℕ → ℕ → List A → List (List A)
first_slices n zero xs = []
first_slices n (suc k) xs = first_slices n k xs ++ slice_at n k xs ∷ []

-- the list in slices of n elements, of which the last one may be shorter
abbrev pub slices : {A : Type 0} → ℕ → List A → List (List A)
slices n xs = first_slices n (div_ceil (length xs) n) xs

-- the bytes in pieces of at most 4,096 bytes each
abbrev pub pieces : ℕ → List ℕ → List ScriptEvent
pieces c bytes = map (λ part. Piece c part) (slices 4096 bytes)

-- four connections are opened, and none of any is closed
pub record AreOpen (events : List ScriptEvent) : Type 0 where
  pub four : opened events ≡ 4
  pub none_closed : (c : ℕ) → ¬ Contains events (Close c)
