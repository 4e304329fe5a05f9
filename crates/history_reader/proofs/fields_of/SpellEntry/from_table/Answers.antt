use Rattle.std.proofs.Common.{refl, sym, subst}
use Rattle.fields.specs.Table.{IsPath}
use Rattle.lifecycle.specs.Version.{IsVersion}
use Rattle.schemas.specs.Shapes.{IsGroup, IsResource, IsFieldId}
use Rattle.history_reader.specs.Demands.{IsPathText}
use Rattle.history_reader.proofs.DemandLemmas.{shaped_text}
use Rattle.history_reader.proofs.fields_of.SpellEntry.from_table.Goals as goal

pub returns-clause-shaped : goal.returns-clause-shaped
returns-clause-shaped c = record {
  group = shaped_text IsGroup _ c.text_of.result.now c.in_ok-group.group c.requires.0 c.text_of.ensures c.in_ok-group.ensures;
  resource = shaped_text IsResource _ c.text_of-2.result.now c.in_ok-resource.resource c.requires.1.0 c.text_of-2.ensures c.in_ok-resource.ensures;
  version = shaped_text IsVersion _ c.text_of-3.result.now c.in_ok-version.version c.requires.1.1.0 c.text_of-3.ensures c.in_ok-version.ensures;
  field = shaped_text IsFieldId _ c.text_of-4.result.now c.in_ok-field.field c.requires.1.1.1.0 c.text_of-4.ensures c.in_ok-field.ensures;
  since = c.release_of-since.ensures.bound;
  path = subst IsPath (sym c.in_ok-path.ensures) (shaped_text IsPathText _ c.text_of-5.result.now c.text_of-5.result.now c.requires.1.1.1.1.1.0 c.text_of-5.ensures refl);
  default = c.in_ok-default.ensures.shaped;
}
