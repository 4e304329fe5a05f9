-- The document `APIResourceList` (Kubernetes' resource discovery, in this project's profile).
use Rattle.std.specs.Prelude.{ℕ, ◌&&◌, List, [], ◌∷◌, Bool, Option, Some, None, if◌then◌else◌, map, filter, codes}
use Rattle.std.specs.List.{list_any}
use Rattle.std.specs.Str.{bytes_eq}
use Rattle.serde_json.specs.Data.{Data, boolean, string, array, object, member, no_members}
use Rattle.serde_json.specs.View.{items_of}
use Rattle.lifecycle.specs.Names.{group_version}
use Rattle.release_view.specs.Served.{served_of}
use Rattle.release_view.specs.Views.{Viewed}
use Rattle.release_view.specs.declared.served.ServedVersion.{ServedVersion}

abbrev pub is_of : List ℕ → List ℕ → ServedVersion → Bool
is_of group version s = bytes_eq s.group group && bytes_eq s.version version

-- the resources that are served in the version, in order of bytes
abbrev pub resources_in : List ServedVersion → List ℕ → List ℕ → List ServedVersion
resources_in served group version = filter (is_of group version) served

-- what can be done with each resource
abbrev pub verbs_tree : Data
verbs_tree =
    array (items_of (map (λ verb. string verb)
    (codes "create" ∷ codes "delete" ∷ codes "get" ∷ codes "list" ∷ codes "update" ∷ [])))

abbrev pub resource_tree : ServedVersion → Data
resource_tree s =
    object
    (member (codes "kind") (string s.kind)
    (member (codes "name") (string s.resource)
    (member (codes "namespaced") (boolean s.namespaced)
    (member (codes "singularName") (string s.singular)
    (member (codes "verbs") verbs_tree
    no_members)))))

abbrev pub resources_tree : List ℕ → List ℕ → List Data → Data
resources_tree group version resources =
    object
    (member (codes "apiVersion") (string (codes "v1"))
    (member (codes "groupVersion") (string (group_version group version))
    (member (codes "kind") (string (codes "APIResourceList"))
    (member (codes "resources") (array (items_of resources))
    no_members))))

-- some resource is served in the version
abbrev pub serves_version : List ServedVersion → List ℕ → List ℕ → Bool
serves_version served group version = list_any (is_of group version) served

-- the document of the resources of a version, or none where none is served in it
abbrev pub resources_among : List ServedVersion → List ℕ → List ℕ → Option Data
resources_among served group version =
    if serves_version served group version
    then Some (resources_tree group version (map resource_tree (resources_in served group version)))
    else None

abbrev pub resource_list_page : Viewed → List ℕ → List ℕ → Option Data
resource_list_page view group version = resources_among (served_of view.versions) group version
