-- What a request asks for, of what the release serves.
use Rattle.std.specs.Prelude.{◌≡◌, ℕ, ◌==◌, not, List, Bool, Option, Some, None, if◌then◌else◌, length, is_some, option_map, option_and_then}
use Rattle.discovery.specs.Groups.{group_page as page_of_group}
use Rattle.discovery.specs.Resources.{resource_list_page}
use Rattle.fields.specs.declared.table.VersionTable.{VersionTable}
use Rattle.http_front.specs.Routes.{RouteName, version_page, metrics_page, group_list, group_page, resource_list, all_objects, objects_inside, one_object, IsRouteOf}
use Rattle.lifecycle.specs.Entry.{GroupVersionResource}
use Rattle.release_view.specs.Views.{Viewed, served_in, table_in}
use Rattle.release_view.specs.declared.served.ServedVersion.{ServedVersion}
use Rattle.request_target.specs.declared.target.Resource.{Resource as ResourceS}
use Rattle.request_target.specs.declared.target.Target.{Target}
use Rattle.request_target.specs.declared.target.Target.TheVariants.{Releases, Gates, Groups, Group, Resources, Everywhere, Inside, Object}

-- a version of a resource as it is served, and the table by which its objects are read and shown
pub record Resource : Type 0 where
  pub served : ServedVersion
  pub table : VersionTable

-- a page, all objects of a resource, those in a namespace, or one object; the namespace is empty
-- where there is none
pub data Asked : Type 0 where
  releases : Asked
  gates : Asked
  groups : Asked
  group : (name : List ℕ) → Asked
  resources : (group version : List ℕ) → Asked
  everywhere : (of : Resource) → Asked
  inside : (of : Resource) (namespace : List ℕ) → Asked
  object : (of : Resource) (namespace name : List ℕ) → Asked

-- the version of the resource, where it is served
abbrev pub resource_in : Viewed → GroupVersionResource → Option Resource
resource_in view name =
    option_and_then (λ s.
    option_map (λ t. record { served = s; table = t }) (table_in view.versions name))
    (served_in view.versions name)

-- fits the scope: objects of a namespaced resource are in a namespace, those of another resource
-- are in none
abbrev pub fits_scope : Resource → List ℕ → Bool
fits_scope r namespace =
    if length namespace == 0 then not r.served.namespaced else r.served.namespaced

abbrev pub inside_scope : Resource → List ℕ → Option Asked
inside_scope r namespace =
    if fits_scope r namespace then Some (inside r namespace) else None

abbrev pub object_in_scope : Resource → List ℕ → List ℕ → Option Asked
object_in_scope r namespace name =
    if fits_scope r namespace then Some (object r namespace name) else None

-- what a route asks for, where that is served and fits the scope
abbrev pub asked_in : Viewed → RouteName → Option Asked
asked_in view version_page = Some releases
asked_in view metrics_page = Some gates
asked_in view group_list = Some groups
asked_in view (group_page name) =
    if is_some (page_of_group view name) then Some (group name) else None
asked_in view (resource_list g v) =
    if is_some (resource_list_page view g v) then Some (resources g v) else None
asked_in view (all_objects of) = option_map everywhere (resource_in view of)
asked_in view (objects_inside of namespace) =
    option_and_then (λ r. inside_scope r namespace) (resource_in view of)
asked_in view (one_object of namespace name) =
    option_and_then (λ r. object_in_scope r namespace name) (resource_in view of)

-- the path asks for this; for nothing, where it names nothing that is served
abbrev pub AsksFor : Viewed → List ℕ → Option Asked → Type 0
AsksFor view path asked =
    (route : Option RouteName) × IsRouteOf path route
    × (asked ≡ option_and_then (asked_in view) route)

-- the resource of which objects are asked for
abbrev pub resource_of : Asked → Option Resource
resource_of (everywhere of) = Some of
resource_of (inside of namespace) = Some of
resource_of (object of namespace name) = Some of
resource_of releases = None
resource_of gates = None
resource_of groups = None
resource_of (group name) = None
resource_of (resources g v) = None

-- ---- as the code has them

abbrev pub resource_seen : ResourceS → Resource
resource_seen r = record { served = r.served.now; table = r.table.now }

abbrev pub asked : Target → Asked
asked Releases = releases
asked Gates = gates
asked Groups = groups
asked (Group name) = group name.now
asked (Resources g v) = resources g.now v.now
asked (Everywhere of) = everywhere (resource_seen of)
asked (Inside of namespace) = inside (resource_seen of) namespace.now
asked (Object of namespace name) = object (resource_seen of) namespace.now name.now
