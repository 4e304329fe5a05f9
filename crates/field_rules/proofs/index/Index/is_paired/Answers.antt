use Rattle.std.proofs.Common.{ap}
use Rattle.schemas.specs.Dated.{Dated}
use Rattle.field_rules.proofs.IndexLemmas.{paired_with}
use Rattle.field_rules.proofs.index.Index.is_paired.Goals as goal

pub returns : goal.returns
returns c = paired_with c.self.inside.fields.now c.args.self.now c.self.inside.fields_by_resource c.listed.result c.pairs_with_one.result c.bytes-group.result.now c.bytes-resource.result.now c.args.spell.now c.self.invariant.fields_by_resource (ap (λ (h : Dated). h.fields) c.self.view_is) c.listed.ensures c.bytes-group.ensures c.bytes-resource.ensures c.pairs_with_one.ensures
