use Rattle.std.proofs.Common.{ap}
use Rattle.schemas.specs.Dated.{Dated}
use Rattle.field_rules.proofs.IndexLemmas.{fits}
use Rattle.field_rules.proofs.index.Index.fits_field.Goals as goal

pub returns : goal.returns
returns c = fits c.self.inside.fields.now c.args.self.now.fields c.self.inside.fields_by_resource c.listed.result c.fits_fields.result c.bytes-group.result.now c.bytes-resource.result.now c.args.spell.now c.self.invariant.fields_by_resource (ap (λ (h : Dated). h.fields) c.self.view_is) c.listed.ensures c.bytes-group.ensures c.bytes-resource.ensures c.fits_fields.ensures
