use Rattle.release_view.proofs.TextLemmas.{joined, not_joined}
use Rattle.request_body.proofs.version.is_joined.Goals as goal

pub returns-in-Some-behind : goal.returns-in-Some-behind
returns-in-Some-behind c = joined c.args.text.now c.args.group.now c.in-Some.rest.now c.args.version.now c.in-Some-behind.rest.now c.eq.result c.in-Some.ensures.some c.in-Some-behind.ensures.some c.eq.ensures

pub returns-in-None : goal.returns-in-None
returns-in-None c = not_joined c.args.text.now c.args.group.now c.in-Some.rest.now c.args.version.now c.in-Some.ensures.some c.in-None.ensures.none
