use Rattle.serde_json.specs.View.{view as tree_of}
use Rattle.storage_version.proofs.BodyLemmas.{body_fault}
use Rattle.storage_version.proofs.body.body_fields.Goals as goal

pub returns-in-Some-clause-err : goal.returns-in-Some-clause-err
returns-in-Some-clause-err c =
    let text = rw c.in-Some.is at c.in_ok-json.ensures.some in
    body_fault c.args.view.now.versions c.args.group.now c.args.resource.now c.args.body.now (tree_of c.in-Some.json) c.object_fields.result text c.object_fields.ensures.err
