-- Which routes begin with given segments.
use Rattle.std.proofs.Common.{◌≡◌, ◌⊎◌, inl, inr, ℕ, ◌<◌, List, [], ◌∷◌, ◌++◌, All, Option, Some, None, cond, length, refl, sym, ◌∙◌, ap, subst, arith, append_assoc}
use Rattle.std.specs.Prelude.{◌≢◌, codes}
use Rattle.std.specs.List.{AllByRecursion}
use Rattle.std.specs.Str.{bytes_eq}
use Rattle.std.proofs.lemmas.List.{append-nil}
use Rattle.std.proofs.lemmas.List.Elements.{recursion_from_All, All-from_recursion, All-append}
use Rattle.lifecycle.specs.Entry.{GroupVersionResource}
use Rattle.http_front.specs.Behind.{IsRouteBehind}
use Rattle.http_front.specs.Paths.{slash, path_of, IsSegment, IsNamespace, IsObjectName, IsNextSegment}
use Rattle.http_front.specs.Routes.{RouteName, version_page, metrics_page, group_list, group_page, resource_list, all_objects, objects_inside, one_object, version_segments, namespace_segments, segments_of, IsVersionOf, IsInSome, HasShapes, IsLawful, IsRouteOf, HasOneRoute}
use Rattle.http_front.proofs.PathLemmas.{next_once, next_of_path, segments_once}

api_clash : codes "api" ≡ codes "apis" → ⊥
api_clash e = let n : 3 ≡ 4 = ap (λ (l : List ℕ). length l) e in omega (arith, n)

-- the segments behind those of a version, in a route of the version
abbrev pub HasBehind : RouteName → List (List ℕ) → Type 0
HasBehind (resource_list group version) behind = behind ≡ []
HasBehind (all_objects of) behind = behind ≡ of.resource ∷ []
HasBehind (objects_inside of namespace) behind = IsNamespace namespace × (behind ≡ codes "namespaces" ∷ namespace ∷ of.resource ∷ [])
HasBehind (one_object of namespace name) behind = IsInSome namespace of.resource × IsObjectName name × (behind ≡ namespace_segments namespace ++ (of.resource ∷ name ∷ []))
HasBehind _ _ = ⊥

same_version : (g v h w : List ℕ) (xs ys : List (List ℕ)) → version_segments g v ++ xs ≡ version_segments h w ++ ys → ys ≡ xs
same_version [] v [] w xs ys e = let same : codes "api" ∷ v ∷ xs ≡ codes "api" ∷ w ∷ ys = e in cc
same_version (a ∷ g) v (b ∷ h) w xs ys e = let same : codes "apis" ∷ (a ∷ g) ∷ v ∷ xs ≡ codes "apis" ∷ (b ∷ h) ∷ w ∷ ys = e in cc
same_version [] v (b ∷ h) w xs ys e = absurd (let same : codes "api" ∷ v ∷ xs ≡ codes "apis" ∷ (b ∷ h) ∷ w ∷ ys = e in let clash : codes "api" ≡ codes "apis" = cc in api_clash clash)
same_version (a ∷ g) v [] w xs ys e = absurd (let same : codes "apis" ∷ (a ∷ g) ∷ v ∷ xs ≡ codes "api" ∷ w ∷ ys = e in let clash : codes "api" ≡ codes "apis" = cc in api_clash clash)

no_single : (x g v : List ℕ) (ys : List (List ℕ)) → x ∷ [] ≡ version_segments g v ++ ys → ⊥
no_single x [] v ys e = let same : x ∷ [] ≡ codes "api" ∷ v ∷ ys = e in cc
no_single x (a ∷ g) v ys e = let same : x ∷ [] ≡ codes "apis" ∷ (a ∷ g) ∷ v ∷ ys = e in cc

no_pair : (x g v : List ℕ) (ys : List (List ℕ)) → codes "apis" ∷ x ∷ [] ≡ version_segments g v ++ ys → ⊥
no_pair x [] v ys e = let same : codes "apis" ∷ x ∷ [] ≡ codes "api" ∷ v ∷ ys = e in let clash : codes "api" ≡ codes "apis" = cc in api_clash clash
no_pair x (a ∷ g) v ys e = let same : codes "apis" ∷ x ∷ [] ≡ codes "apis" ∷ (a ∷ g) ∷ v ∷ ys = e in cc

-- a lawful route whose segments begin with those of a version
pub behind_version : (r : RouteName) (g v : List ℕ) (behind : List (List ℕ)) → IsLawful r → segments_of r ≡ version_segments g v ++ behind → HasBehind r behind
behind_version (resource_list h w) g v behind lawful e = same_version h w g v [] behind (append-nil (version_segments h w) ∙ e)
behind_version (all_objects of) g v behind lawful e = same_version of.group of.version g v (of.resource ∷ []) behind e
behind_version (objects_inside of namespace) g v behind lawful e = (lawful.shapes.1, same_version of.group of.version g v (codes "namespaces" ∷ namespace ∷ of.resource ∷ []) behind e)
behind_version (one_object of namespace name) g v behind lawful e = (lawful.shapes.1, lawful.shapes.2, same_version of.group of.version g v (namespace_segments namespace ++ (of.resource ∷ name ∷ [])) behind e)
behind_version version_page g v behind lawful e = absurd (no_single (codes "version") g v behind e)
behind_version metrics_page g v behind lawful e = absurd (no_single (codes "metrics") g v behind e)
behind_version group_list g v behind lawful e = absurd (no_single (codes "apis") g v behind e)
behind_version (group_page group) g v behind lawful e = absurd (no_pair group g v behind e)

middle : (xs : List (List ℕ)) (y : List ℕ) (ys : List (List ℕ)) → AllByRecursion IsSegment (xs ++ y ∷ ys) → IsSegment y
middle [] y ys h = h.0
middle (x ∷ xs) y ys h = middle xs y ys h.1

-- the next segment of a lawful route's path
lawful_next : (r : RouteName) (before : List (List ℕ)) (path s : List ℕ) (ss : List (List ℕ)) → IsLawful r → segments_of r ≡ before ++ (s ∷ ss) → path ≡ path_of (s ∷ ss) → IsNextSegment path s (path_of ss)
lawful_next r before path s ss lawful same whole =
    next_of_path path s ss (middle before s ss (recursion_from_All IsSegment (before ++ (s ∷ ss)) (subst (All IsSegment) same lawful.segments))) whole

none_behind : (before next : List (List ℕ)) (path segment rest : List ℕ) → before ++ (segment ∷ []) ≡ next → IsNextSegment path segment rest → IsRouteBehind next rest None
    → (r : RouteName) (bs : List (List ℕ)) → IsLawful r → segments_of r ≡ before ++ bs → path ≢ path_of bs
none_behind before next path segment rest e h behind r [] lawful same whole = let clash : slash ∷ (segment ++ rest) ≡ [] = sym h.whole ∙ whole in cc
none_behind before next path segment rest e h behind r (s ∷ ss) lawful same whole =
    let once = next_once path segment rest s (path_of ss) h (lawful_next r before path s ss lawful same whole) in
    behind.none r ss lawful (same ∙ ap (λ (z : List ℕ). before ++ (z ∷ ss)) (sym once.0) ∙ sym (append_assoc before (segment ∷ []) ss) ∙ ap (λ (l : List (List ℕ)). l ++ ss) e) once.1

-- one more segment before
pub behind_next : (before next : List (List ℕ)) (path segment rest : List ℕ) (route : Option RouteName) → before ++ (segment ∷ []) ≡ next
    → IsNextSegment path segment rest → IsRouteBehind next rest route → IsRouteBehind before path route
behind_next before next path segment rest (Some r) e h behind = let found = behind.some.1 in record {
  some = (behind.some.0, (segment ∷ found.0, found.1 ∙ ap (λ (l : List (List ℕ)). l ++ found.0) (sym e) ∙ append_assoc before (segment ∷ []) found.0, h.whole ∙ ap (λ (x : List ℕ). slash ∷ (segment ++ x)) found.2));
  none = tt;
}
behind_next before next path segment rest None e h behind = record { some = tt; none = none_behind before next path segment rest e h behind }

nothing_behind : (before : List (List ℕ)) (path : List ℕ) → ((r : RouteName) → IsLawful r → segments_of r ≡ before → path ≢ []) → ((segment rest : List ℕ) → IsNextSegment path segment rest → ⊥)
    → (r : RouteName) (bs : List (List ℕ)) → IsLawful r → segments_of r ≡ before ++ bs → path ≢ path_of bs
nothing_behind before path end none r [] lawful same whole = end r lawful (same ∙ append-nil before) whole
nothing_behind before path end none r (s ∷ ss) lawful same whole = none s (path_of ss) (lawful_next r before path s ss lawful same whole)

-- neither the end of a route nor a segment
pub behind_broken : (before : List (List ℕ)) (path : List ℕ) → ((r : RouteName) → IsLawful r → segments_of r ≡ before → path ≢ []) → ((segment rest : List ℕ) → IsNextSegment path segment rest → ⊥) → IsRouteBehind before path None
behind_broken before path end none = record { some = tt; none = nothing_behind before path end none }

-- a lawful route, and nothing behind it
pub behind_end : (r : RouteName) (path : List ℕ) → IsLawful r → path ≡ [] → IsRouteBehind (segments_of r) path (Some r)
behind_end r path lawful end = record { some = (lawful, ([], sym (append-nil (segments_of r)), end)); none = tt }

-- no lawful route goes on so
pub behind_none : (before : List (List ℕ)) (path : List ℕ) → ((r : RouteName) (bs : List (List ℕ)) → IsLawful r → segments_of r ≡ before ++ bs → path ≢ path_of bs) → IsRouteBehind before path None
behind_none before path none = record { some = tt; none = none }

-- the segments of a namespace with nothing behind them are of no route
no_namespace_alone : (r : RouteName) (ns : List ℕ) → HasBehind r (codes "namespaces" ∷ ns ∷ []) → ⊥
no_namespace_alone (resource_list g v) ns h = let e : codes "namespaces" ∷ ns ∷ [] ≡ [] = h in cc
no_namespace_alone (all_objects of) ns h = let e : codes "namespaces" ∷ ns ∷ [] ≡ of.resource ∷ [] = h in cc
no_namespace_alone (objects_inside of m) ns h = let e : codes "namespaces" ∷ ns ∷ [] ≡ codes "namespaces" ∷ m ∷ of.resource ∷ [] = h.1 in cc
no_namespace_alone (one_object of [] n) ns h = h.0 (let e : codes "namespaces" ∷ ns ∷ [] ≡ of.resource ∷ n ∷ [] = h.2 in cc)
no_namespace_alone (one_object of (c ∷ cs) n) ns h = let e : codes "namespaces" ∷ ns ∷ [] ≡ codes "namespaces" ∷ (c ∷ cs) ∷ of.resource ∷ n ∷ [] = h.2 in cc
no_namespace_alone version_page ns h = h
no_namespace_alone metrics_page ns h = h
no_namespace_alone group_list ns h = h
no_namespace_alone (group_page g) ns h = h

-- behind `namespaces` stands a namespace
is_namespace_behind : (r : RouteName) (ns : List ℕ) (bs : List (List ℕ)) → HasBehind r (codes "namespaces" ∷ ns ∷ bs) → IsNamespace ns
is_namespace_behind (resource_list g v) ns bs h = absurd (let e : codes "namespaces" ∷ ns ∷ bs ≡ [] = h in cc)
is_namespace_behind (all_objects of) ns bs h = absurd (let e : codes "namespaces" ∷ ns ∷ bs ≡ of.resource ∷ [] = h in cc)
is_namespace_behind (objects_inside of m) ns bs h = subst IsNamespace (let e : codes "namespaces" ∷ ns ∷ bs ≡ codes "namespaces" ∷ m ∷ of.resource ∷ [] = h.1 in let same : m ≡ ns = cc in same) h.0
is_namespace_behind (one_object of [] n) ns bs h = absurd (h.0 (let e : codes "namespaces" ∷ ns ∷ bs ≡ of.resource ∷ n ∷ [] = h.2 in cc))
is_namespace_behind (one_object of (c ∷ cs) n) ns bs h = subst IsNamespace (let e : codes "namespaces" ∷ ns ∷ bs ≡ codes "namespaces" ∷ (c ∷ cs) ∷ of.resource ∷ n ∷ [] = h.2 in let same : c ∷ cs ≡ ns = cc in same) h.0
is_namespace_behind version_page ns bs h = absurd h
is_namespace_behind metrics_page ns bs h = absurd h
is_namespace_behind group_list ns bs h = absurd h
is_namespace_behind (group_page g) ns bs h = absurd h

-- an object's name ends its route
object_ends : (r : RouteName) (ns resource name : List ℕ) (bs : List (List ℕ)) → IsInSome ns resource → HasBehind r ((namespace_segments ns ++ (resource ∷ name ∷ [])) ++ bs) → IsObjectName name × (bs ≡ [])
object_ends (resource_list g v) [] resource name bs some h = absurd (let e : resource ∷ name ∷ bs ≡ [] = h in cc)
object_ends (resource_list g v) (c ∷ cs) resource name bs some h = absurd (let e : codes "namespaces" ∷ (c ∷ cs) ∷ resource ∷ name ∷ bs ≡ [] = h in cc)
object_ends (all_objects of) [] resource name bs some h = absurd (let e : resource ∷ name ∷ bs ≡ of.resource ∷ [] = h in cc)
object_ends (all_objects of) (c ∷ cs) resource name bs some h = absurd (let e : codes "namespaces" ∷ (c ∷ cs) ∷ resource ∷ name ∷ bs ≡ of.resource ∷ [] = h in cc)
object_ends (objects_inside of m) [] resource name bs some h = absurd (some (let e : resource ∷ name ∷ bs ≡ codes "namespaces" ∷ m ∷ of.resource ∷ [] = h.1 in cc))
object_ends (objects_inside of m) (c ∷ cs) resource name bs some h = absurd (let e : codes "namespaces" ∷ (c ∷ cs) ∷ resource ∷ name ∷ bs ≡ codes "namespaces" ∷ m ∷ of.resource ∷ [] = h.1 in cc)
object_ends (one_object of [] n) [] resource name bs some h =
    let e : resource ∷ name ∷ bs ≡ of.resource ∷ n ∷ [] = h.2 in
    (subst IsObjectName (let same : n ≡ name = cc in same) h.1, (let end : bs ≡ [] = cc in end))
object_ends (one_object of (d ∷ ds) n) [] resource name bs some h = absurd (some (let e : resource ∷ name ∷ bs ≡ codes "namespaces" ∷ (d ∷ ds) ∷ of.resource ∷ n ∷ [] = h.2 in cc))
object_ends (one_object of [] n) (c ∷ cs) resource name bs some h = absurd (h.0 (let e : codes "namespaces" ∷ (c ∷ cs) ∷ resource ∷ name ∷ bs ≡ of.resource ∷ n ∷ [] = h.2 in cc))
object_ends (one_object of (d ∷ ds) n) (c ∷ cs) resource name bs some h =
    let e : codes "namespaces" ∷ (c ∷ cs) ∷ resource ∷ name ∷ bs ≡ codes "namespaces" ∷ (d ∷ ds) ∷ of.resource ∷ n ∷ [] = h.2 in
    (subst IsObjectName (let same : n ≡ name = cc in same) h.1, (let end : bs ≡ [] = cc in end))
object_ends version_page ns resource name bs some h = absurd h
object_ends metrics_page ns resource name bs some h = absurd h
object_ends group_list ns resource name bs some h = absurd h
object_ends (group_page g) ns resource name bs some h = absurd h

pub not_a_namespace : (g v ns path : List ℕ) → (IsNamespace ns → ⊥) → IsRouteBehind (version_segments g v ++ (codes "namespaces" ∷ ns ∷ [])) path None
not_a_namespace g v ns path not = behind_none (version_segments g v ++ (codes "namespaces" ∷ ns ∷ [])) path
    (λ r bs lawful same whole. not (is_namespace_behind r ns bs (behind_version r g v (codes "namespaces" ∷ ns ∷ bs) lawful (same ∙ append_assoc (version_segments g v) (codes "namespaces" ∷ ns ∷ []) bs))))

pub namespace_alone : (g v ns path : List ℕ) → ((segment rest : List ℕ) → IsNextSegment path segment rest → ⊥) → IsRouteBehind (version_segments g v ++ (codes "namespaces" ∷ ns ∷ [])) path None
namespace_alone g v ns path none = behind_broken (version_segments g v ++ (codes "namespaces" ∷ ns ∷ [])) path
    (λ r lawful same end. no_namespace_alone r ns (behind_version r g v (codes "namespaces" ∷ ns ∷ []) lawful same)) none

pub object_broken : (of : GroupVersionResource) (ns name path : List ℕ) → IsInSome ns of.resource → (IsObjectName name → path ≡ [] → ⊥) → IsRouteBehind (segments_of (one_object of ns name)) path None
object_broken of ns name path some not = behind_none (segments_of (one_object of ns name)) path (λ r bs lawful same whole.
    let behind = namespace_segments ns ++ (of.resource ∷ name ∷ []) in
    let ends = object_ends r ns of.resource name bs some (behind_version r of.group of.version (behind ++ bs) lawful (same ∙ append_assoc (version_segments of.group of.version) behind bs)) in
    not ends.0 (whole ∙ ap path_of ends.1))

-- a route under `api` is of `v1`
core_version : (g v : List ℕ) (xs bs : List (List ℕ)) → IsVersionOf g v → version_segments g v ++ xs ≡ codes "api" ∷ bs → (rest : List (List ℕ)) × (bs ≡ codes "v1" ∷ rest)
core_version [] v xs bs is e = (xs, (let same : codes "api" ∷ v ∷ xs ≡ codes "api" ∷ bs = e in let one : v ≡ codes "v1" = is in let tail : bs ≡ v ∷ xs = cc in tail ∙ ap (λ (w : List ℕ). w ∷ xs) one))
core_version (a ∷ g) v xs bs is e = absurd (let same : codes "apis" ∷ (a ∷ g) ∷ v ∷ xs ≡ codes "api" ∷ bs = e in let clash : codes "api" ≡ codes "apis" = cc in api_clash clash)

core_is_v1 : (r : RouteName) (bs : List (List ℕ)) → IsLawful r → segments_of r ≡ codes "api" ∷ bs → (rest : List (List ℕ)) × (bs ≡ codes "v1" ∷ rest)
core_is_v1 (resource_list g v) bs lawful e = core_version g v [] bs lawful.shapes (append-nil (version_segments g v) ∙ e)
core_is_v1 (all_objects of) bs lawful e = core_version of.group of.version (of.resource ∷ []) bs lawful.shapes e
core_is_v1 (objects_inside of ns) bs lawful e = core_version of.group of.version (codes "namespaces" ∷ ns ∷ of.resource ∷ []) bs lawful.shapes.0 e
core_is_v1 (one_object of ns n) bs lawful e = core_version of.group of.version (namespace_segments ns ++ (of.resource ∷ n ∷ [])) bs lawful.shapes.0 e
core_is_v1 version_page bs lawful e = absurd (let same : codes "version" ∷ [] ≡ codes "api" ∷ bs = e in let clash : codes "version" ≡ codes "api" = cc in let n : 7 ≡ 3 = ap (λ (l : List ℕ). length l) clash in omega (arith, n))
core_is_v1 metrics_page bs lawful e = absurd (let same : codes "metrics" ∷ [] ≡ codes "api" ∷ bs = e in let clash : codes "metrics" ≡ codes "api" = cc in let n : 7 ≡ 3 = ap (λ (l : List ℕ). length l) clash in omega (arith, n))
core_is_v1 group_list bs lawful e = absurd (let same : codes "apis" ∷ [] ≡ codes "api" ∷ bs = e in let clash : codes "api" ≡ codes "apis" = cc in api_clash clash)
core_is_v1 (group_page g) bs lawful e = absurd (let same : codes "apis" ∷ g ∷ [] ≡ codes "api" ∷ bs = e in let clash : codes "api" ≡ codes "apis" = cc in api_clash clash)

pub core_nowhere : (path : List ℕ) → ((segment rest : List ℕ) → IsNextSegment path segment rest → segment ≢ codes "v1") → IsRouteBehind (codes "api" ∷ []) path None
core_nowhere path other = behind_none (codes "api" ∷ []) path (λ r bs lawful same whole.
    let one = core_is_v1 r bs lawful same in
    other (codes "v1") (path_of one.0) (lawful_next r (codes "api" ∷ []) path (codes "v1") one.0 lawful (same ∙ ap (λ (l : List (List ℕ)). codes "api" ∷ l) one.1) (whole ∙ ap path_of one.1)) refl)

-- how a path begins
abbrev BeginsAs : List ℕ → List (List ℕ) → Type 0
BeginsAs x bs = (x ≡ codes "api") ⊎ (x ≡ codes "apis") ⊎ (((x ≡ codes "version") ⊎ (x ≡ codes "metrics")) × (bs ≡ []))

begins_version : (g v x : List ℕ) (xs bs : List (List ℕ)) → version_segments g v ++ xs ≡ x ∷ bs → BeginsAs x bs
begins_version [] v x xs bs e = inl (let same : codes "api" ∷ v ∷ xs ≡ x ∷ bs = e in cc)
begins_version (a ∷ g) v x xs bs e = inr (inl (let same : codes "apis" ∷ (a ∷ g) ∷ v ∷ xs ≡ x ∷ bs = e in cc))

begins_as : (r : RouteName) (x : List ℕ) (bs : List (List ℕ)) → segments_of r ≡ x ∷ bs → BeginsAs x bs
begins_as (resource_list g v) x bs e = begins_version g v x [] bs (append-nil (version_segments g v) ∙ e)
begins_as (all_objects of) x bs e = begins_version of.group of.version x (of.resource ∷ []) bs e
begins_as (objects_inside of ns) x bs e = begins_version of.group of.version x (codes "namespaces" ∷ ns ∷ of.resource ∷ []) bs e
begins_as (one_object of ns n) x bs e = begins_version of.group of.version x (namespace_segments ns ++ (of.resource ∷ n ∷ [])) bs e
begins_as version_page x bs e = let same : codes "version" ∷ [] ≡ x ∷ bs = e in inr (inr (inl (let is : x ≡ codes "version" = cc in is), (let end : bs ≡ [] = cc in end)))
begins_as metrics_page x bs e = let same : codes "metrics" ∷ [] ≡ x ∷ bs = e in inr (inr (inr (let is : x ≡ codes "metrics" = cc in is), (let end : bs ≡ [] = cc in end)))
begins_as group_list x bs e = let same : codes "apis" ∷ [] ≡ x ∷ bs = e in inr (inl (let is : x ≡ codes "apis" = cc in is))
begins_as (group_page g) x bs e = let same : codes "apis" ∷ g ∷ [] ≡ x ∷ bs = e in inr (inl (let is : x ≡ codes "apis" = cc in is))

pub begins_nowhere : (x path : List ℕ) → x ≢ codes "api" → x ≢ codes "apis" → (path ≡ [] → x ≢ codes "version") → (path ≡ [] → x ≢ codes "metrics") → IsRouteBehind (x ∷ []) path None
begins_nowhere x path api apis version metrics = behind_none (x ∷ []) path (λ r bs lawful same whole. elim (begins_as r x bs same) [
  | inl is ↦ api is
  | inr (inl is) ↦ apis is
  | inr (inr page) ↦ let end : path ≡ [] = whole ∙ ap path_of page.1 in elim page.0 [ inl is ↦ version end is | inr is ↦ metrics end is ]
])

-- the route of the path as a whole
pub route_whole : (path segment rest : List ℕ) (route : Option RouteName) → IsNextSegment path segment rest → IsRouteBehind (segment ∷ []) rest route → IsRouteOf path route
route_whole path segment rest (Some r) next behind =
    let whole = behind_next [] (segment ∷ []) path segment rest (Some r) refl next behind in
    let found = whole.some.1 in
    record { some = (whole.some.0, found.2 ∙ ap path_of (sym found.1)); none = tt }
route_whole path segment rest None next behind =
    let whole = behind_next [] (segment ∷ []) path segment rest None refl next behind in
    record { some = tt; none = λ r lawful is. whole.none r (segments_of r) lawful refl is }

some_version : (g v : List ℕ) (xs : List (List ℕ)) → version_segments g v ++ xs ≢ []
some_version [] v xs e = let same : codes "api" ∷ v ∷ xs ≡ [] = e in cc
some_version (c ∷ cs) v xs e = let same : codes "apis" ∷ (c ∷ cs) ∷ v ∷ xs ≡ [] = e in cc

some_segments : (r : RouteName) → segments_of r ≢ []
some_segments (resource_list [] v) e = let same : codes "api" ∷ v ∷ [] ≡ [] = e in cc
some_segments (resource_list (c ∷ cs) v) e = let same : codes "apis" ∷ (c ∷ cs) ∷ v ∷ [] ≡ [] = e in cc
some_segments (all_objects of) e = some_version of.group of.version (of.resource ∷ []) e
some_segments (objects_inside of ns) e = some_version of.group of.version (codes "namespaces" ∷ ns ∷ of.resource ∷ []) e
some_segments (one_object of ns n) e = some_version of.group of.version (namespace_segments ns ++ (of.resource ∷ n ∷ [])) e
some_segments version_page e = let same : codes "version" ∷ [] ≡ [] = e in cc
some_segments metrics_page e = let same : codes "metrics" ∷ [] ≡ [] = e in cc
some_segments group_list e = let same : codes "apis" ∷ [] ≡ [] = e in cc
some_segments (group_page g) e = let same : codes "apis" ∷ g ∷ [] ≡ [] = e in cc

pub no_path : (path : List ℕ) → ((segment rest : List ℕ) → IsNextSegment path segment rest → ⊥) → IsRouteOf path None
no_path path none = record { some = tt; none = λ r lawful is. nothing_behind [] path (λ s other empty end. some_segments s empty) none r (segments_of r) lawful refl is }

-- the route that segments were printed from
abbrev named_objects : List ℕ → List ℕ → List (List ℕ) → RouteName
named_objects g v (r ∷ []) = all_objects (record { group = g; version = v; resource = r })
named_objects g v (r ∷ n ∷ []) = one_object (record { group = g; version = v; resource = r }) [] n
named_objects g v (_ ∷ ns ∷ r ∷ []) = objects_inside (record { group = g; version = v; resource = r }) ns
named_objects g v (_ ∷ ns ∷ r ∷ n ∷ []) = one_object (record { group = g; version = v; resource = r }) ns n
named_objects g v _ = resource_list g v

abbrev named_by : List (List ℕ) → RouteName
named_by (x ∷ []) = cond (bytes_eq x (codes "version")) version_page (cond (bytes_eq x (codes "metrics")) metrics_page group_list)
named_by (x ∷ y ∷ []) = cond (bytes_eq x (codes "api")) (resource_list [] y) (group_page y)
named_by (x ∷ y ∷ z ∷ rest) = cond (bytes_eq x (codes "api")) (named_objects [] y (z ∷ rest)) (named_objects y z rest)
named_by [] = version_page

named_all : (g v r : List ℕ) → named_by (version_segments g v ++ (r ∷ [])) ≡ all_objects (record { group = g; version = v; resource = r })
named_all [] v r = refl
named_all (c ∷ cs) v r = refl

named_inside : (g v r ns : List ℕ) → named_by (version_segments g v ++ (codes "namespaces" ∷ ns ∷ r ∷ [])) ≡ objects_inside (record { group = g; version = v; resource = r }) ns
named_inside [] v r ns = refl
named_inside (c ∷ cs) v r ns = refl

named_one : (g v r ns n : List ℕ) → named_by (version_segments g v ++ (namespace_segments ns ++ (r ∷ n ∷ []))) ≡ one_object (record { group = g; version = v; resource = r }) ns n
named_one [] v r [] n = refl
named_one [] v r (d ∷ ds) n = refl
named_one (c ∷ cs) v r [] n = refl
named_one (c ∷ cs) v r (d ∷ ds) n = refl

named_back : (r : RouteName) → named_by (segments_of r) ≡ r
named_back version_page = refl
named_back metrics_page = refl
named_back group_list = refl
named_back (group_page g) = refl
named_back (resource_list [] v) = refl
named_back (resource_list (c ∷ cs) v) = refl
named_back (all_objects of) = named_all of.group of.version of.resource
named_back (objects_inside of ns) = named_inside of.group of.version of.resource ns
named_back (one_object of ns n) = named_one of.group of.version of.resource ns n

pub one_route : (path : List ℕ) → HasOneRoute path
one_route path (Some a) (Some b) h k =
    let same : segments_of a ≡ segments_of b = segments_once (segments_of a) (segments_of b) (recursion_from_All IsSegment (segments_of a) h.some.0.segments) (recursion_from_All IsSegment (segments_of b) k.some.0.segments) (sym h.some.1 ∙ k.some.1) in
    ap (λ (r : RouteName). Some r) (sym (named_back a) ∙ ap named_by same ∙ named_back b)
one_route path (Some a) None h k = absurd (k.none a h.some.0 h.some.1)
one_route path None (Some b) h k = absurd (h.none b k.some.0 k.some.1)
one_route path None None h k = refl

-- the segments with one more are segments
pub segments_next : (before next : List (List ℕ)) (segment : List ℕ) → before ++ (segment ∷ []) ≡ next → All IsSegment before → IsSegment segment → All IsSegment next
segments_next before next segment e all one = subst (All IsSegment) e (All-append IsSegment before (segment ∷ []) all (All-from_recursion IsSegment (segment ∷ []) (one, tt)))

in_namespace : (ns : List ℕ) → 0 < length ns → namespace_segments ns ≡ codes "namespaces" ∷ ns ∷ []
in_namespace [] some = absurd (let h : 0 < 0 = some in omega (arith, h))
in_namespace (c ∷ cs) some = refl

-- an object's segments are those of its resource in the namespace, and its name
pub inside_next : (of : GroupVersionResource) (ns name : List ℕ) → IsNamespace ns → segments_of (objects_inside of ns) ++ (name ∷ []) ≡ segments_of (one_object of ns name)
inside_next of ns name is =
    append_assoc (version_segments of.group of.version) (codes "namespaces" ∷ ns ∷ of.resource ∷ []) (name ∷ [])
    ∙ ap (λ (l : List (List ℕ)). version_segments of.group of.version ++ (l ++ (of.resource ∷ name ∷ []))) (sym (in_namespace ns is.label.some))

pub group_next : (group version : List ℕ) → 0 < length group → (codes "apis" ∷ group ∷ []) ++ (version ∷ []) ≡ version_segments group version
group_next [] version some = absurd (let h : 0 < 0 = some in omega (arith, h))
group_next (c ∷ cs) version some = refl

-- neither the end of the path nor a segment
pub behind_nothing : (before : List (List ℕ)) (path : List ℕ) → 0 < length path → ((segment rest : List ℕ) → IsNextSegment path segment rest → ⊥) → IsRouteBehind before path None
behind_nothing before path some none = behind_broken before path (λ r lawful same end. let zero : length path ≡ 0 = ap (λ (l : List ℕ). length l) end in omega (arith, zero, some)) none

-- a page of one segment
pub page_end : (r : RouteName) (x path : List ℕ) → segments_of r ≡ x ∷ [] → HasShapes r → IsSegment x → path ≡ [] → IsRouteBehind (x ∷ []) path (Some r)
page_end r x path is shapes segment end =
    let lawful : IsLawful r = record { segments = subst (All IsSegment) (sym is) (All-from_recursion IsSegment (x ∷ []) (segment, tt)); shapes = shapes } in
    let P : List (List ℕ) → Type 0 = λ before. IsRouteBehind before path (Some r) in
    subst P is (behind_end r path lawful end)
