-- The field of an accepted history, as contracts see it.
use Rattle.schemas.specs.Dated.{Dated}
use Rattle.schemas.specs.Rules.{IsAccepted}
use Rattle.schemas.specs.declared.accepted.Accepted.TheInside.{Inside}

abbrev pub history_of : Inside → Dated
history_of a = a.history

abbrev pub MeetsRules : Inside → Type 0
MeetsRules a = IsAccepted a.history
