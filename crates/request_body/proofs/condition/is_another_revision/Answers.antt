use Rattle.std.proofs.Common.{codes, decimal}
use Rattle.serde_json.specs.View.{view}
use Rattle.request_body.specs.Places.{given_in}
use Rattle.request_body.proofs.TestLemmas.{another}
use Rattle.request_body.proofs.condition.is_another_revision.Goals as goal

pub returns-in-Some : goal.returns-in-Some
returns-in-Some c =
    another (given_in c.args.outer.now (codes "resourceVersion") (view c.args.tree.now)) (decimal c.args.object.now.revision) c.in-Some.text.now c.is_decimal.result c.in-Some.ensures.some c.is_decimal.ensures
