use Rattle.std.proofs.Common.{[], ◌∷◌, ◌++◌, List, ℕ, codes, append_assoc}
use Rattle.http_front.specs.Paths.{IsNextSegment}
use Rattle.http_front.specs.Routes.{route_named, version_segments}
use Rattle.http_front.proofs.RouteLemmas.{behind_next}
use Rattle.http_front.proofs.route.route_in_namespace.Goals as goal

pub returns-in-Some : goal.returns-in-Some
returns-in-Some c =
    let next : IsNextSegment c.args.rest.now c.in-Some.resource.now c.in-Some.rest.now = c.in-Some.ensures.some in
    let version : List (List ℕ) = version_segments c.args.group.now c.args.version.now in
    let inside : List (List ℕ) = codes "namespaces" ∷ c.args.namespace.now ∷ [] in
    behind_next (version ++ inside) (version ++ (inside ++ (c.in-Some.resource.now ∷ []))) c.args.rest.now c.in-Some.resource.now c.in-Some.rest.now (route_named c.route_inside.result)
    (append_assoc version inside (c.in-Some.resource.now ∷ [])) next c.route_inside.ensures
