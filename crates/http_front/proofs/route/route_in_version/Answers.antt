use Rattle.std.proofs.Common.{rules}
use Rattle.std.proofs.Common.{[], ◌∷◌, refl}
use Rattle.http_front.specs.Paths.{IsNextSegment}
use Rattle.http_front.specs.Routes.{route_named, version_segments}
use Rattle.std.proofs.Common.{◌++◌}
use Rattle.http_front.proofs.RouteLemmas.{behind_next, behind_nothing}
use Rattle.http_front.proofs.route.route_in_version.Goals as goal

pub returns-in-Some : goal.returns-in-Some
returns-in-Some c =
    let next : IsNextSegment c.args.rest.now c.in-Some.resource.now c.in-Some.rest.now = c.in-Some.ensures.some in
    let version = version_segments c.args.group.now c.args.version.now in
    behind_next version (version ++ (c.in-Some.resource.now ∷ [])) c.args.rest.now c.in-Some.resource.now c.in-Some.rest.now (route_named c.route_of_resource.result) refl next c.route_of_resource.ensures

pub returns-in-None : goal.returns-in-None
returns-in-None c = behind_nothing (version_segments c.args.group.now c.args.version.now) c.args.rest.now (search rules) c.in-None.ensures.none
