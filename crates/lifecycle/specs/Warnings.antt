-- A warning as contracts see it.
use Rattle.lifecycle.specs.Tables.{Deprecation}
use Rattle.lifecycle.specs.declared.tables.Warning.{Warning}

abbrev pub told : Warning → Deprecation
told w = record { since = w.since; removal = w.removal; replacement = w.replacement.now }
