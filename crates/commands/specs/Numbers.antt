-- The number of each status.
use Rattle.std.specs.Prelude.{ℕ}
use Rattle.commands.specs.declared.status.Status.{Status}
use Rattle.commands.specs.declared.status.Status.TheVariants as status

abbrev pub number_of : Status → ℕ
number_of status.Ok = 0
number_of status.Usage = 2
number_of status.Memory = 3
number_of status.ReadFault = 4
number_of status.WriteFault = 5
number_of status.DiskFault = 6
number_of status.FrontFault = 7
number_of status.History = 8
number_of status.Flags = 9
number_of status.Store = 10
number_of status.Spent = 11
