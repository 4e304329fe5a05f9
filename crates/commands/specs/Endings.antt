-- What serving says at its end.
use Rattle.std.specs.Prelude.{◌≡◌, ℕ, List, Result, Ok, Err, codes}
use Rattle.answer_lines.specs.Options.{config_line, gate_line, version_line}
use Rattle.answer_lines.specs.Serving.{not_a_store_line, served_line, unreadable_line}
use Rattle.minor_version.specs.Ranges.{floor_of}
use Rattle.runtime_config.specs.declared.fault.ConfigFault.TheVariants as config
use Rattle.schemas.specs.Dated.{Dated}
use Rattle.schemas.specs.Rules.{first_of, last_of}
use Rattle.served_history.specs.declared.fault.ServeFault.{ServeFault}
use Rattle.served_history.specs.declared.fault.ServeFault.TheVariants as fault
use Rattle.session_ends.specs.declared.served.Served.{Served}
use Rattle.commands.specs.declared.status.Status.{Status}
use Rattle.commands.specs.declared.status.Status.TheVariants as status

-- the status
abbrev pub end_status : Result Served ServeFault → Status
end_status (Ok served) = status.Ok
end_status (Err (fault.Emulated cause)) = status.Flags
end_status (Err (fault.Least e cause)) = status.Flags
end_status (Err (fault.Features place cause)) = status.Flags
end_status (Err (fault.Runtime place cause)) = status.Flags
end_status (Err fault.OnlyAllFalse) = status.Flags
end_status (Err (fault.NotAStore file at)) = status.Store
end_status (Err (fault.Undecodable key version minor)) = status.Store
end_status (Err fault.Disk) = status.DiskFault
end_status (Err fault.Front) = status.FrontFault
end_status (Err fault.Spent) = status.Spent
end_status (Err fault.Memory) = status.Memory

abbrev pub lowest : Dated → ℕ
lowest h = floor_of (first_of h) (last_of h)

-- the line that is written with a refusal or a fault; of want of memory nothing is said
abbrev pub fault_line : Dated → ServeFault → List ℕ
fault_line h (fault.Emulated cause) = version_line (codes "emulated-version") (lowest h) (last_of h) cause
fault_line h (fault.Least e cause) = version_line (codes "min-compatibility-version") (lowest h) e cause
fault_line h (fault.Features place cause) = gate_line place cause
fault_line h (fault.Runtime place cause) = config_line (config.At place cause)
fault_line h fault.OnlyAllFalse = config_line config.OnlyAllFalse
fault_line h (fault.NotAStore file at) = not_a_store_line file at
fault_line h (fault.Undecodable key version minor) = unreadable_line key version minor
fault_line h fault.Disk = codes "disk fault\n"
fault_line h fault.Front = codes "front fault\n"
fault_line h fault.Spent = codes "too many events\n"
fault_line h fault.Memory = codes ""

-- the line that is written at an end
abbrev pub end_line : Dated → Result Served ServeFault → List ℕ
end_line h (Ok served) = served_line served.requests served.revision
end_line h (Err fault) = fault_line h fault
