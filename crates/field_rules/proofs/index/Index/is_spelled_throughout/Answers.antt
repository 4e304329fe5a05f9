use Rattle.std.proofs.Common.{ap}
use Rattle.schemas.specs.Dated.{Dated}
use Rattle.field_rules.proofs.IndexLemmas.{spelled_throughout}
use Rattle.field_rules.proofs.index.Index.is_spelled_throughout.Goals as goal

pub returns : goal.returns
returns c = spelled_throughout c.self.inside.apis.now c.args.self.now c.self.inside.apis_by_resource c.listed.result c.is_spelled_in_each.result c.bytes-group.result.now c.bytes-resource.result.now c.args.field.now c.self.invariant.apis_by_resource (ap (λ (h : Dated). h.apis) c.self.view_is) c.listed.ensures c.bytes-group.ensures c.bytes-resource.ensures c.is_spelled_in_each.ensures
