-- What a path names, by the segments that each route has.
use Rattle.std.specs.Prelude.{◌≡◌, ◌≢◌, ℕ, List, [], ◌∷◌, ◌++◌, codes, Option, Some, None, IfSome, IfNone, All}
use Rattle.lifecycle.specs.Entry.{GroupVersionResource, named}
use Rattle.http_front.specs.Paths.{path_of, IsSegment, IsNamespace, IsObjectName}
use Rattle.http_front.specs.declared.route.Route.{Route}
use Rattle.http_front.specs.declared.route.Route.TheVariants.{Version, Metrics, Groups, Group, Resources, All as AllVariant, Inside, One, Nowhere}

-- what a request may ask for: a page, the documents of groups, or objects
pub data RouteName : Type 0 where
  version_page : RouteName
  metrics_page : RouteName
  group_list : RouteName
  group_page : (group : List ℕ) → RouteName
  resource_list : (group version : List ℕ) → RouteName
  all_objects : (of : GroupVersionResource) → RouteName
  objects_inside : (of : GroupVersionResource) (namespace : List ℕ) → RouteName
  one_object : (of : GroupVersionResource) (namespace name : List ℕ) → RouteName

-- `apis` with group and version; the core group, whose name is empty, stands under `api`
abbrev pub version_segments : List ℕ → List ℕ → List (List ℕ)
version_segments [] version = codes "api" ∷ version ∷ []
version_segments (c ∷ cs) version = codes "apis" ∷ (c ∷ cs) ∷ version ∷ []

-- `namespaces` and the namespace, where there is one
abbrev pub namespace_segments : List ℕ → List (List ℕ)
namespace_segments [] = []
namespace_segments (c ∷ cs) = codes "namespaces" ∷ (c ∷ cs) ∷ []

-- the segments of the version, and those behind it
abbrev pub object_segments : GroupVersionResource → List (List ℕ) → List (List ℕ)
object_segments of rest = version_segments of.group of.version ++ rest

-- the segments of the path that asks for it
abbrev pub segments_of : RouteName → List (List ℕ)
segments_of version_page = codes "version" ∷ []
segments_of metrics_page = codes "metrics" ∷ []
segments_of group_list = codes "apis" ∷ []
segments_of (group_page group) = codes "apis" ∷ group ∷ []
segments_of (resource_list group version) = version_segments group version
segments_of (all_objects of) = object_segments of (of.resource ∷ [])
segments_of (objects_inside of namespace) =
    object_segments of (codes "namespaces" ∷ namespace ∷ of.resource ∷ [])
segments_of (one_object of namespace name) =
    object_segments of (namespace_segments namespace ++ (of.resource ∷ name ∷ []))

-- the core group has only the version `v1`
abbrev pub IsVersionOf : List ℕ → List ℕ → Type 0
IsVersionOf [] version = version ≡ codes "v1"
IsVersionOf (_ ∷ _) version = Unit {0}

-- without a namespace an object isn't one of `namespaces`, whose paths are those of objects inside
abbrev pub IsInSome : List ℕ → List ℕ → Type 0
IsInSome [] resource = resource ≢ codes "namespaces"
IsInSome (c ∷ cs) resource = IsNamespace (c ∷ cs)

-- the texts of a route are of their shapes
abbrev pub HasShapes : RouteName → Type 0
HasShapes (resource_list group version) = IsVersionOf group version
HasShapes (all_objects of) = IsVersionOf of.group of.version
HasShapes (objects_inside of namespace) = IsVersionOf of.group of.version × IsNamespace namespace
HasShapes (one_object of namespace name) =
    IsVersionOf of.group of.version × IsInSome namespace of.resource × IsObjectName name
HasShapes _ = Unit {0}

-- a route that a path can name
pub record IsLawful (route : RouteName) : Type 0 where
  pub segments : All IsSegment (segments_of route)
  pub shapes : HasShapes route

-- the path names the route; or none at all, where it is of no lawful route
pub record IsRouteOf (path : List ℕ) (route : Option RouteName) : Type 0 where
  pub some : IfSome route (λ r. IsLawful r × (path ≡ path_of (segments_of r)))
  pub none : IfNone route ((r : RouteName) → IsLawful r → path ≢ path_of (segments_of r))

-- the route that an answer is; none where the path is nowhere
abbrev pub route_named : Route → Option RouteName
route_named Version = Some version_page
route_named Metrics = Some metrics_page
route_named Groups = Some group_list
route_named (Group group) = Some (group_page group.now)
route_named (Resources group version) = Some (resource_list group.now version.now)
route_named (AllVariant of) = Some (all_objects (named of))
route_named (Inside of namespace) = Some (objects_inside (named of) namespace.now)
route_named (One of namespace name) = Some (one_object (named of) namespace.now name.now)
route_named Nowhere = None

-- a path has one route
abbrev pub HasOneRoute : List ℕ → Type 0
HasOneRoute path = (a b : Option RouteName) → IsRouteOf path a → IsRouteOf path b → a ≡ b
