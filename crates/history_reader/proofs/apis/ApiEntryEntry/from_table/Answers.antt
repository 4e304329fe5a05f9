use Rattle.history_reader.proofs.DemandLemmas.{shaped_text}
use Rattle.history_reader.proofs.apis.ApiEntryEntry.from_table.Goals as goal

pub returns-clause-shaped : goal.returns-clause-shaped
returns-clause-shaped c = record {
  group = shaped_text _ _ _ _ c.requires.0 c.text_of.ensures c.in_ok-group.ensures;
  version = shaped_text _ _ _ _ c.requires.1.0 c.text_of-2.ensures c.in_ok-version.ensures;
  resource = shaped_text _ _ _ _ c.requires.1.1.0 c.text_of-3.ensures c.in_ok-resource.ensures;
  since = c.release_of-since.ensures.bound;
  change = c.in_ok-change.ensures.shaped;
}
