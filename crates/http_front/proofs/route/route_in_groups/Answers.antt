use Rattle.std.proofs.Common.{rules}
use Rattle.std.proofs.Common.{[], ◌∷◌, refl, codes}
use Rattle.http_front.specs.Paths.{IsNextSegment}
use Rattle.http_front.specs.Routes.{route_named}
use Rattle.http_front.proofs.RouteLemmas.{behind_next, behind_nothing}
use Rattle.http_front.proofs.route.route_in_groups.Goals as goal

pub returns-in-Some : goal.returns-in-Some
returns-in-Some c =
    let next : IsNextSegment c.args.rest.now c.in-Some.group.now c.in-Some.rest.now = c.in-Some.ensures.some in
    behind_next (codes "apis" ∷ []) (codes "apis" ∷ c.in-Some.group.now ∷ []) c.args.rest.now c.in-Some.group.now c.in-Some.rest.now (route_named c.route_in_group.result) refl next c.route_in_group.ensures

pub returns-in-None : goal.returns-in-None
returns-in-None c = behind_nothing (codes "apis" ∷ []) c.args.rest.now (search rules) c.in-None.ensures.none
