use Rattle.serde_json.specs.View.{view as tree_of}
use Rattle.workload.proofs.BodyLemmas.{described_plain, body_is}
use Rattle.workload.proofs.body.body.Goals as goal

pub compact-requires : goal.compact-requires
compact-requires c = described_plain (tree_of c.in_ok-shown.shown) (tree_of c.in_ok-own.own) (tree_of c.in_ok-object.object) c.args.name.now c.in_ok-shown.ensures.no_float c.in_ok-own.ensures c.in_ok-object.ensures

pub returns : goal.returns
returns c = body_is c.args.table.now c.args.fields.now (tree_of c.in_ok-shown.shown) (tree_of c.in_ok-own.own) (tree_of c.in_ok-object.object) c.args.name.now _ c.in_ok-shown.ensures.shown c.in_ok-own.ensures c.in_ok-object.ensures c.in_ok-text.ensures
