use Rattle.std.proofs.Common.{ap}
use Rattle.schemas.specs.Dated.{Dated}
use Rattle.field_rules.proofs.IndexLemmas.{versioned_by}
use Rattle.field_rules.proofs.index.Index.is_versioned_by.Goals as goal

pub returns : goal.returns
returns c = versioned_by c.self.inside.apis.now c.args.self.now.apis c.self.inside.apis_by_resource c.listed.result c.has_introduction_by.result c.bytes-group.result.now c.bytes-resource.result.now c.args.field.now.group c.args.field.now.resource c.args.by c.self.invariant.apis_by_resource (ap (λ (h : Dated). h.apis) c.self.view_is) c.listed.ensures c.bytes-group.ensures c.bytes-resource.ensures c.has_introduction_by.ensures
