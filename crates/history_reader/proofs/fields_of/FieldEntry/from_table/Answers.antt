use Rattle.toml.specs.Data.{as_str}
use Rattle.schemas.specs.Shapes.{IsGateName, IsGroup, IsResource, IsFieldId}
use Rattle.history_reader.proofs.DemandLemmas.{shaped_text, shaped_optional}
use Rattle.history_reader.proofs.fields_of.FieldEntry.from_table.Goals as goal

pub returns-clause-shaped : goal.returns-clause-shaped
returns-clause-shaped c = record {
  group = shaped_text IsGroup _ c.text_of.result.now c.in_ok-group.group c.requires.0 c.text_of.ensures c.in_ok-group.ensures;
  resource = shaped_text IsResource _ c.text_of-2.result.now c.in_ok-resource.resource c.requires.1.0 c.text_of-2.ensures c.in_ok-resource.ensures;
  id = shaped_text IsFieldId _ c.text_of-3.result.now c.in_ok-id.id c.requires.1.1.0 c.text_of-3.ensures c.in_ok-id.ensures;
  since = c.release_of-since.ensures.bound;
  gate = shaped_optional as_str IsGateName _ c.in_ok-gate.gate c.requires.1.1.1.1.1.1.0 c.in_ok-gate.ensures;
}
