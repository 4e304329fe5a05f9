use Rattle.std.proofs.lemmas.Option.{IfSome_then}
use Rattle.http_front.specs.Routes.{route_named}
use Rattle.request_target.proofs.asked.target_of.Goals as goal

pub target_in-requires : goal.target_in-requires
target_in-requires c = IfSome_then (route_named c.route_of-route.result) c.route_of-route.ensures.some (λ r h. h.0.shapes)

pub returns-clause-asked : goal.returns-clause-asked
returns-clause-asked c = (route_named c.route_of-route.result, c.route_of-route.ensures, c.target_in.ensures.asked)
