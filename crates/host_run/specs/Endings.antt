-- How the process ends, and with which status.
use Rattle.std.specs.Prelude.{ℕ}
use Rattle.commands.specs.Numbers.{number_of}
use Rattle.commands.specs.declared.status.Status.TheVariants.{Memory as OutOfMemory}
use Rattle.real_world.specs.declared.fault.WorldFault.{WorldFault}
use Rattle.real_world.specs.declared.fault.WorldFault.TheVariants.{BadLine, Failed, Memory}
use Rattle.host_run.specs.declared.ending.Ending.{Ending}
use Rattle.host_run.specs.declared.ending.Ending.TheVariants.{Ran, NoWorld, BadScript}

abbrev pub ending_number : Ending → ℕ
ending_number (Ran status) = number_of status
ending_number NoWorld = 12
ending_number BadScript = 13

-- the end where there is no world
abbrev pub ending_without_world : WorldFault → Ending
ending_without_world (BadLine number) = BadScript
ending_without_world Failed = NoWorld
ending_without_world Memory = Ran OutOfMemory
