-- The documents `APIGroupList` and `APIGroup` (Kubernetes' group discovery, in this project's profile).
use Rattle.std.specs.Prelude.{ℕ, ◌==◌, ◌||◌, not, List, [], ◌∷◌, Bool, Option, Some, None, if◌then◌else◌, length, map, filter, codes}
use Rattle.std.specs.List.{dedup, list_any}
use Rattle.std.specs.Str.{bytes_eq}
use Rattle.serde_json.specs.Data.{Data, null, string, array, object, member, no_members}
use Rattle.serde_json.specs.View.{items_of}
use Rattle.lifecycle.specs.Names.{group_version}
use Rattle.release_view.specs.Served.{served_of}
use Rattle.release_view.specs.Views.{Viewed}
use Rattle.release_view.specs.declared.served.ServedVersion.{ServedVersion}

abbrev pub is_in : List ℕ → ServedVersion → Bool
is_in group s = bytes_eq s.group group

-- the served versions of a group, each once, in order of stability
abbrev pub versions_in : List ServedVersion → List ℕ → List (List ℕ)
versions_in served group = dedup bytes_eq (map (λ s. s.version) (filter (is_in group) served))

-- the core group has no name
abbrev pub is_core : List ℕ → Bool
is_core group = length group == 0

-- the groups with a served version, but the core group, each once, in order of bytes
abbrev pub names_in : List ServedVersion → List (List ℕ)
names_in served = filter (λ group. not (is_core group)) (dedup bytes_eq (map (λ s. s.group) served))

abbrev pub version_tree : List ℕ → List ℕ → Data
version_tree group version =
    object
    (member (codes "groupVersion") (string (group_version group version))
    (member (codes "version") (string version)
    no_members))

-- the first version is preferred; a listed group has one
abbrev pub preferred_tree : List ℕ → List (List ℕ) → Data
preferred_tree group [] = null
preferred_tree group (version ∷ versions) = version_tree group version

abbrev pub versions_tree : List ℕ → List (List ℕ) → Data
versions_tree group versions = array (items_of (map (version_tree group) versions))

-- a group in the list
abbrev pub group_tree : List ℕ → List (List ℕ) → Data
group_tree group versions =
    object
    (member (codes "name") (string group)
    (member (codes "preferredVersion") (preferred_tree group versions)
    (member (codes "versions") (versions_tree group versions)
    no_members)))

abbrev pub group_trees : List ServedVersion → List Data
group_trees served = map (λ group. group_tree group (versions_in served group)) (names_in served)

abbrev pub list_tree : List Data → Data
list_tree groups =
    object
    (member (codes "apiVersion") (string (codes "v1"))
    (member (codes "groups") (array (items_of groups))
    (member (codes "kind") (string (codes "APIGroupList"))
    no_members)))

-- the list of the groups
abbrev pub group_list_page : Viewed → Data
group_list_page view = list_tree (group_trees (served_of view.versions))

-- a group by itself
abbrev pub single_tree : List ℕ → List (List ℕ) → Data
single_tree group versions =
    object
    (member (codes "apiVersion") (string (codes "v1"))
    (member (codes "kind") (string (codes "APIGroup"))
    (member (codes "name") (string group)
    (member (codes "preferredVersion") (preferred_tree group versions)
    (member (codes "versions") (versions_tree group versions)
    no_members)))))

-- some version of the group is served
abbrev pub serves_group : List ServedVersion → List ℕ → Bool
serves_group served group = list_any (is_in group) served

-- the document of a group, or none for the core group and where nothing of the group is served
abbrev pub group_among : List ServedVersion → List ℕ → Option Data
group_among served group =
    if is_core group || not (serves_group served group)
    then None
    else Some (single_tree group (versions_in served group))

abbrev pub group_page : Viewed → List ℕ → Option Data
group_page view group = group_among (served_of view.versions) group
