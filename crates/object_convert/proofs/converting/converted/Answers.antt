-- Both versions are of one resource, so what is read in the one can be shown in the other.
use Rattle.object_convert.proofs.SpellLemmas.{same_fields}
use Rattle.serde_json.specs.View.{view as tree_of}
use Rattle.object_convert.proofs.converting.converted.Goals as goal

pub there_and_back-requires-clause-same : goal.there_and_back-requires-clause-same
there_and_back-requires-clause-same c =
    same_fields c.args.view.now.versions (tree_of c.args.json) c.args.to.now c.bytes-group.result.now c.bytes-resource.result.now c.in-Some.table.now c.in-Some-table_of_version.target.now c.versions_spell_alike.ensures
    c.in-Some.ensures.value c.bytes-group.ensures c.bytes-resource.ensures c.in-Some-table_of_version.ensures.value
