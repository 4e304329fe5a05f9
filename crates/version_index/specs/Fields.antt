-- The fields of an index, as contracts see it: the tables of the release.
use Rattle.std.specs.Prelude.{List}
use Rattle.lifecycle.specs.Tables.{cutoff}
use Rattle.lifecycle.specs.declared.entry.ApiEntry.{ApiEntry}
use Rattle.version_index.specs.Events.{HasFirstChanges}
use Rattle.version_index.specs.declared.event.Event.TheVariants.{Introduction, Deprecation, Removal, Forgetting}
use Rattle.version_index.specs.declared.index.VersionIndex.TheInside.{Inside}

abbrev pub tables_of : Inside → List ApiEntry
tables_of i = cutoff i.entries.now i.e

pub record IsIndex (i : Inside) : Type 0 where
  pub introductions : HasFirstChanges Introduction (tables_of i) i.introductions
  pub deprecations : HasFirstChanges Deprecation (tables_of i) i.deprecations
  pub removals : HasFirstChanges Removal (tables_of i) i.removals
  pub forgettings : HasFirstChanges Forgetting (tables_of i) i.forgettings
