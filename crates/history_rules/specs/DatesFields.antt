-- The fields of an index of dates, as contracts see it.
use Rattle.std.specs.Prelude.{List}
use Rattle.lifecycle.specs.declared.entry.ApiEntry.{ApiEntry}
use Rattle.history_rules.specs.Dates.{HasEarliest}
use Rattle.history_rules.specs.Followers.{HasFollowers}
use Rattle.history_rules.specs.declared.dates.Event.TheVariants.{Introduction, Removal}
use Rattle.history_rules.specs.declared.dates.Dates.TheInside.{Inside}

-- the entries that the index is of
abbrev pub entries_of : Inside → List ApiEntry
entries_of d = d.entries.now

-- each map has its dates
pub record IsIndex (d : Inside) : Type 0 where
  pub introduced : HasEarliest Introduction d.entries.now d.introduced
  pub removed : HasEarliest Removal d.entries.now d.removed
  pub followers : HasFollowers d.entries.now d.entries.now d.followers
