-- The lines that tell how serving ended, and why a store isn't served.
use Rattle.std.specs.Prelude.{ℕ, List, ◌++◌, codes, decimal}
use Rattle.disk.specs.declared.file.File.{File}
use Rattle.disk.specs.declared.file.File.TheVariants.{Choice, Left, Right}
use Rattle.minor_version.specs.Release.{release_text}
use Rattle.object_journal.specs.declared.key.Key.{Key}

-- how many requests were answered, and the revision then
abbrev pub served_line : ℕ → ℕ → List ℕ
served_line requests revision =
    codes "served " ++ (decimal requests
    ++ (codes " requests, revision " ++ (decimal revision ++ codes "\n")))

abbrev pub file_name : File → List ℕ
file_name Choice = codes "choice"
file_name Left = codes "left"
file_name Right = codes "right"

-- a file breaks the grammar at a place
abbrev pub not_a_store_line : File → ℕ → List ℕ
not_a_store_line file at =
    codes "store: not a store: "
    ++ (file_name file ++ (codes " at " ++ (decimal at ++ codes "\n")))

abbrev pub key_text : Key → List ℕ
key_text key =
    key.group ++ (codes "/" ++ (key.resource
    ++ (codes " " ++ (key.namespace ++ (codes "/" ++ key.name)))))

-- a record is in a version, as its body tells it, that a release doesn't read
abbrev pub unreadable_line : Key → List ℕ → ℕ → List ℕ
unreadable_line key version minor =
    codes "store: " ++ (key_text key ++ (codes " in "
    ++ (version ++ (codes ": not readable in " ++ (release_text minor ++ codes "\n")))))
