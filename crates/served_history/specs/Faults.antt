-- Which fault of serving a history stands for one of the flag texts or of the store.
use Rattle.flagged_view.specs.declared.fault.FlagsFault.{FlagsFault}
use Rattle.flagged_view.specs.declared.fault.FlagsFault.TheVariants as flags
use Rattle.gate_flags.specs.declared.fault.GateFault.TheVariants as gate
use Rattle.runtime_config.specs.declared.fault.ConfigFault.TheVariants as config
use Rattle.served_history.specs.declared.fault.ServeFault.{ServeFault}
use Rattle.served_history.specs.declared.fault.ServeFault.TheVariants as fault
use Rattle.store_session.specs.declared.fault.StoreFault.{StoreFault}
use Rattle.store_session.specs.declared.fault.StoreFault.TheVariants as store

abbrev pub of_flags : FlagsFault → ServeFault
of_flags (flags.Features (gate.At place cause)) = fault.Features place cause
of_flags (flags.Features gate.Memory) = fault.Memory
of_flags (flags.Runtime (config.At place cause)) = fault.Runtime place cause
of_flags (flags.Runtime config.OnlyAllFalse) = fault.OnlyAllFalse
of_flags (flags.Runtime config.Memory) = fault.Memory

abbrev pub of_store : StoreFault → ServeFault
of_store (store.NotAStore file at) = fault.NotAStore file at
of_store (store.Undecodable key version minor) = fault.Undecodable key version minor
of_store store.Disk = fault.Disk
of_store store.Front = fault.Front
of_store store.Spent = fault.Spent
of_store store.Memory = fault.Memory
