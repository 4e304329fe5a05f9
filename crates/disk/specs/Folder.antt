-- The files of a folder.
use Rattle.std.specs.Prelude.{◌≡◌, false}
use Rattle.disk.specs.Images.{same_file}
use Rattle.disk.specs.declared.file.File.{File}
use Rattle.disk.specs.declared.file.File.TheVariants.{Choice, Left, Right}
use Rattle.disk.specs.declared.file_disk.FileSet.{FileSet}

-- the file of this name
abbrev pub file_in : {F : Type 0} → FileSet F → File → F
file_in files Choice = files.choice
file_in files Left = files.left
file_in files Right = files.right

-- the files of the other names are the same as before
abbrev pub OthersAreSame : {F : Type 0} → File → FileSet F → FileSet F → Type 0
OthersAreSame file old new = (f : File) → same_file f file ≡ false → file_in new f ≡ file_in old f
