-- What the kinds of entries hold.
use Rattle.std.specs.Prelude.{List}
use Rattle.lifecycle.specs.declared.entry.ApiEntry.{ApiEntry}
use Rattle.history_rules.specs.Kinds.{HasChanges, HasResources}
use Rattle.history_rules.specs.declared.kinds.Kinds.{Kinds}

-- each map has what the entries introduce
pub record AreKindsOf (entries : List ApiEntry) (kinds : Kinds) : Type 0 where
  pub of_changes : HasChanges entries kinds.changes
  pub of_resources : HasResources entries kinds.resources
