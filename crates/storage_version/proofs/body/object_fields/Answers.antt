use Rattle.serde_json.specs.View.{view as tree_of}
use Rattle.storage_version.proofs.BodyLemmas.{object_fault, nothing_named, nothing_read}
use Rattle.storage_version.proofs.body.object_fields.Goals as goal

pub returns-in_default-clause-err : goal.returns-in_default-clause-err
returns-in_default-clause-err c =
    object_fault c.args.view.now.versions c.args.group.now c.args.resource.now (tree_of c.args.json.now) c.version_told.result.now c.undecodable.result c.undecodable.ensures c.version_told.ensures
    (nothing_named c.args.view.now.versions c.args.group.now c.args.resource.now (tree_of c.args.json.now) c.in_default.ensures.none)

pub returns-in-Err-Bad-clause-err : goal.returns-in-Err-Bad-clause-err
returns-in-Err-Bad-clause-err c =
    let ensures = rw c.in-Err-Bad.field-0-is at c.in-Err-Bad.ensures.bad in
    object_fault c.args.view.now.versions c.args.group.now c.args.resource.now (tree_of c.args.json.now) c.version_told-in-Err-Bad.result.now c.undecodable-in-Err-Bad.result c.undecodable-in-Err-Bad.ensures c.version_told-in-Err-Bad.ensures
    (nothing_read c.args.view.now.versions c.args.group.now c.args.resource.now (tree_of c.args.json.now) c.in-Some.table.now c.in-Err-Bad.field-0-0 c.in-Err-Bad.field-0-1 c.in-Some.ensures.some c.tree_has_one_answer.ensures.either ensures)
