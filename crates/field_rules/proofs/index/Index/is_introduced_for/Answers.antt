use Rattle.std.proofs.Common.{ap}
use Rattle.schemas.specs.Dated.{Dated}
use Rattle.field_rules.proofs.IndexLemmas.{introduced_for}
use Rattle.field_rules.proofs.index.Index.is_introduced_for.Goals as goal

pub returns : goal.returns
returns c = introduced_for c.self.inside.apis.now c.args.self.now.apis c.self.inside.apis_by_version c.listed.result c.has_introduction_for.result c.bytes-group.result.now c.bytes-version.result.now c.bytes-resource.result.now c.args.spell.now c.args.field.now.since c.self.invariant.apis_by_version (ap (λ (h : Dated). h.apis) c.self.view_is) c.listed.ensures c.bytes-group.ensures c.bytes-version.ensures c.bytes-resource.ensures c.has_introduction_for.ensures
