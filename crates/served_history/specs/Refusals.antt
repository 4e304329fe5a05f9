-- Why texts make no server of a history.
use Rattle.runtime_config.specs.declared.fault.ConfigFault.TheVariants.{At as AtConfig, OnlyAllFalse as AllFalse}
use Rattle.schemas.specs.Dated.{Dated}
use Rattle.served_history.specs.Ends.{IsEmulatedFault, IsFeaturesFault, IsLeastFault, IsRuntimeFault}
use Rattle.served_history.specs.Releases.{FlagTexts}
use Rattle.served_history.specs.declared.fault.ServeFault.{ServeFault}
use Rattle.served_history.specs.declared.fault.ServeFault.TheVariants as fault

-- a text has this fault, and those before it have none; want of memory is free
abbrev pub IsTextsFault : Dated → FlagTexts → ServeFault → Type 0
IsTextsFault h o (fault.Emulated cause) = IsEmulatedFault h o cause
IsTextsFault h o (fault.Least e cause) = IsLeastFault h o e cause
IsTextsFault h o (fault.Features place cause) = IsFeaturesFault h o place cause
IsTextsFault h o (fault.Runtime place cause) = IsRuntimeFault h o (AtConfig place cause)
IsTextsFault h o fault.OnlyAllFalse = IsRuntimeFault h o AllFalse
IsTextsFault h o fault.Memory = Unit {0}
IsTextsFault h o _ = ⊥
