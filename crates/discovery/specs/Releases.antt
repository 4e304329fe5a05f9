-- The document of a server's releases (its `/version` after KEP-4330, in a form of this product).
use Rattle.std.specs.Prelude.{ℕ, List, codes}
use Rattle.serde_json.specs.Data.{Data, string, object, member, no_members}
use Rattle.minor_version.specs.Release.{release_text}

abbrev pub releases_tree : List ℕ → List ℕ → List ℕ → Data
releases_tree release emulated minimum =
    object
    (member (codes "emulation") (string emulated)
    (member (codes "minCompatibility") (string minimum)
    (member (codes "release") (string release)
    no_members)))

-- the binary's release n, the emulated release e and the minimum compatibility m
abbrev pub releases_page : ℕ → ℕ → ℕ → Data
releases_page n e m = releases_tree (release_text n) (release_text e) (release_text m)
