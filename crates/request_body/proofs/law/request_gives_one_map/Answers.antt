use Rattle.request_body.specs.Places.{place_seen}
use Rattle.request_body.proofs.RequestLemmas.{given_once}
use Rattle.request_body.proofs.law.request_gives_one_map.Goals as goal

pub returns : goal.returns
returns c = given_once c.args.state.now.state c.args.request.now (place_seen c.args.place) c.objects-objects.ensures.order
