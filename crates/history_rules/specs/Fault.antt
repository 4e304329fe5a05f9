-- What the answers of a check say of a history.
use Rattle.schemas.specs.Dated.{Dated}
use Rattle.schemas.specs.Rules.{checks, IsFirstFault}
use Rattle.history_rules.specs.declared.fault.CheckFault.{CheckFault}
use Rattle.history_rules.specs.declared.fault.CheckFault.TheVariants.{Memory, Broken}

-- a named fault is that of the lowest rule that the history breaks, at the first entry that breaks
-- it; memory may always run out
abbrev pub IsFaultOf : Dated → CheckFault → Type 0
IsFaultOf h (Broken rule array number) = IsFirstFault h checks rule array number
IsFaultOf h Memory = Unit {0}
