use Rattle.std.proofs.Common.{ap}
use Rattle.schemas.specs.Dated.{Dated}
use Rattle.field_rules.proofs.IndexLemmas.{spelling_in}
use Rattle.field_rules.proofs.index.Index.has_spelling_in.Goals as goal

pub returns : goal.returns
returns c = spelling_in c.self.inside.spells.now c.args.self.now.spells c.self.inside.spells_by_version c.listed.result c.has_spelling.result c.bytes-group.result.now c.bytes-version.result.now c.bytes-resource.result.now c.args.entry.now c.args.field.now.id c.self.invariant.spells_by_version (ap (λ (h : Dated). h.spells) c.self.view_is) c.listed.ensures c.bytes-group.ensures c.bytes-version.ensures c.bytes-resource.ensures c.has_spelling.ensures
