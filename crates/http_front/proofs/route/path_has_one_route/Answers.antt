use Rattle.http_front.proofs.RouteLemmas.{one_route}
use Rattle.http_front.proofs.route.path_has_one_route.Goals as goal

pub returns : goal.returns
returns c = one_route c.args.path.now
