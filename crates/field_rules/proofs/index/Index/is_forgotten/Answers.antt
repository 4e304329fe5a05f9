use Rattle.std.proofs.Common.{ap}
use Rattle.schemas.specs.Dated.{Dated}
use Rattle.field_rules.proofs.IndexLemmas.{forgotten_by}
use Rattle.field_rules.proofs.index.Index.is_forgotten.Goals as goal

pub returns : goal.returns
returns c = forgotten_by c.self.inside.apis.now c.args.self.now.apis c.self.inside.apis_by_version c.listed.result c.has_forgetting_by.result c.args.group.now c.args.version.now c.args.resource.now c.args.by c.self.invariant.apis_by_version (ap (λ (h : Dated). h.apis) c.self.view_is) c.listed.ensures c.has_forgetting_by.ensures
