use Rattle.std.proofs.Common.{[], ◌∷◌, codes}
use Rattle.http_front.specs.Paths.{IsNextSegment}
use Rattle.http_front.specs.Routes.{route_named, version_segments}
use Rattle.http_front.proofs.RouteLemmas.{behind_next, group_next}
use Rattle.http_front.proofs.route.route_in_group.Goals as goal

pub returns-in-Some : goal.returns-in-Some
returns-in-Some c =
    let next : IsNextSegment c.args.rest.now c.in-Some.version.now c.in-Some.rest.now = c.in-Some.ensures.some in
    behind_next (codes "apis" ∷ c.args.group.now ∷ []) (version_segments c.args.group.now c.in-Some.version.now) c.args.rest.now c.in-Some.version.now c.in-Some.rest.now (route_named c.route_in_version.result)
    (group_next c.args.group.now c.in-Some.version.now c.requires.some) next c.route_in_version.ensures
