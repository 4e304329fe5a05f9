-- The place that a fault names, and the tests of which it is the first fault.
use Rattle.std.specs.Prelude.{List}
use Rattle.history_reader.specs.declared.fault.Fault.{Fault}
use Rattle.history_reader.specs.Tests.{Place, Test, IsFirstFault}

abbrev pub place_of : Fault → Place
place_of fault = record { array = fault.array; index = fault.index; member = fault.member.now }

-- the fault is the first of the tests
abbrev pub IsFaultOf : List Test → Fault → Type 0
IsFaultOf tests fault = IsFirstFault tests (place_of fault)
