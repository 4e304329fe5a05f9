-- The keys of a runtime configuration (kube-apiserver's --runtime-config).
use Rattle.std.specs.Prelude.{ℕ, ◌||◌, List, [], ◌∷◌, ◌++◌, Bool, codes}
use Rattle.std.specs.List.{list_any}
use Rattle.std.specs.Str.{bytes_eq}
use Rattle.lifecycle.specs.Entry.{GroupVersionResource}
use Rattle.lifecycle.specs.Names.{group_version}
use Rattle.lifecycle.specs.declared.version.Level.{Level}
use Rattle.lifecycle.specs.declared.version.Level.TheVariants.{Ga, Beta, Alpha}

-- the key of all versions
abbrev pub all_key : List ℕ
all_key = codes "api/all"

-- the key of the versions of a level
abbrev pub level_key : Level → List ℕ
level_key Ga = codes "api/ga"
level_key (Beta n) = codes "api/beta"
level_key (Alpha n) = codes "api/alpha"

-- the four keys that every release takes
abbrev pub api_keys : List (List ℕ)
api_keys = all_key ∷ codes "api/ga" ∷ codes "api/beta" ∷ codes "api/alpha" ∷ []

abbrev pub is_api_key : List ℕ → Bool
is_api_key key = list_any (bytes_eq key) api_keys

-- the key of a version of a group, with all its resources
abbrev pub version_key : GroupVersionResource → List ℕ
version_key name = group_version name.group name.version

-- the key of one resource in it
abbrev pub resource_key : GroupVersionResource → List ℕ
resource_key name = version_key name ++ codes "/" ++ name.resource

-- the key names the version of the resource
abbrev pub names : List ℕ → GroupVersionResource → Bool
names key name = bytes_eq key (version_key name) || bytes_eq key (resource_key name)
