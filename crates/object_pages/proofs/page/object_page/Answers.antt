use Rattle.std.proofs.Common.{◌∙◌, ap}
use Rattle.lifecycle.specs.Names.{group_version}
use Rattle.object_pages.specs.Documents.{metadata_tree}
use Rattle.object_pages.proofs.PageLemmas.{whole_alike, metadata_plain}
use Rattle.serde_json.specs.View.{view}
use Rattle.serde_json.specs.Written.{has_float}
use Rattle.object_pages.proofs.page.object_page.Goals as goal

pub returns-clause-shown : goal.returns-clause-shown
returns-clause-shown c =
    whole_alike c.args.of.table.now c.as_str.result.now (group_version c.args.of.served.now.group c.args.of.served.now.version) c.args.object.now.fields
    (view c.in_ok-metadata.metadata) (metadata_tree c.args.of.served.now.namespaced c.args.key.now c.args.object.now) c.whole_object.result
    (c.as_str.ensures.value ∙ c.in_ok-version.ensures) c.in_ok-metadata.ensures c.whole_object.ensures.whole

pub whole_object-requires : goal.whole_object-requires
whole_object-requires c = record {
  lawful = c.args.of.own.lawful;
  fits = c.requires;
  no_float = ap has_float c.in_ok-metadata.ensures ∙ metadata_plain c.args.of.served.now.namespaced c.args.key.now c.args.object.now;
}
