-- The contents of the three files of a disk in memory.
use Rattle.std.specs.Prelude.{◌≡◌, ℕ, false, List}
use Rattle.disk.specs.Images.{same_file}
use Rattle.disk.specs.declared.file.File.{File}
use Rattle.disk.specs.declared.file.File.TheVariants.{Choice, Left, Right}
use Rattle.disk.specs.declared.slots.Slots.{Slots}

-- the bytes of three files
pub record Three : Type 0 where
  pub choice : List ℕ
  pub left : List ℕ
  pub right : List ℕ

abbrev pub file_of : Three → File → List ℕ
file_of s Choice = s.choice
file_of s Left = s.left
file_of s Right = s.right

abbrev pub held_in : Slots → File → List ℕ
held_in s Choice = s.choice.held
held_in s Left = s.left.held
held_in s Right = s.right.held

abbrev pub first_in : Slots → Three
first_in s = record { choice = s.choice.first; left = s.left.first; right = s.right.first }

abbrev pub OthersKeep : File → Slots → Slots → Type 0
OthersKeep file old new = (f : File) → same_file f file ≡ false → held_in new f ≡ held_in old f
