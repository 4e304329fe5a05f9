use Rattle.http_front.specs.Paths.{IsNextSegment}
use Rattle.http_front.specs.Routes.{route_named}
use Rattle.http_front.proofs.RouteLemmas.{route_whole, no_path}
use Rattle.http_front.proofs.route.route_of.Goals as goal

pub returns-in-Some : goal.returns-in-Some
returns-in-Some c =
    let next : IsNextSegment c.args.path.now c.in-Some.first.now c.in-Some.rest.now = c.in-Some.ensures.some in
    route_whole c.args.path.now c.in-Some.first.now c.in-Some.rest.now (route_named c.route_from.result) next c.route_from.ensures

pub returns-in-None : goal.returns-in-None
returns-in-None c = no_path c.args.path.now c.in-None.ensures.none
