-- Why there is no world.
use Rattle.std.specs.Prelude.{ℕ, List}
use Rattle.std.specs.declared.io.ErrorKind.{ErrorKind}
use Rattle.std.specs.declared.io.ErrorKind.TheVariants.{OutOfMemory}
use Rattle.disk.specs.declared.file_disk.AtFault.{AtFault}
use Rattle.disk.specs.declared.file_disk.AtFault.TheVariants.{Failed as DiskFailed, Memory as DiskMemory}
use Rattle.scripts.specs.Reading.{IsFaultOf}
use Rattle.scripts.specs.declared.read.ScriptFault.{ScriptFault}
use Rattle.scripts.specs.declared.read.ScriptFault.TheVariants.{BadLine as BadScriptLine, Memory as ScriptMemory}
use Rattle.real_world.specs.declared.fault.WorldFault.{WorldFault}
use Rattle.real_world.specs.declared.fault.WorldFault.TheVariants.{BadLine, Failed, Memory}

-- a machine's error: want of memory is told apart
abbrev pub fault_of_kind : ErrorKind → WorldFault
fault_of_kind OutOfMemory = Memory
fault_of_kind _ = Failed

abbrev pub fault_of_disk : AtFault → WorldFault
fault_of_disk DiskFailed = Failed
fault_of_disk DiskMemory = Memory

abbrev pub fault_of_script : ScriptFault → WorldFault
fault_of_script (BadScriptLine number) = BadLine number
fault_of_script ScriptMemory = Memory

-- a refusal of a script's text: its first bad line, or want of memory
abbrev pub IsFaultOfText : List ℕ → WorldFault → Type 0
IsFaultOfText text (BadLine number) = IsFaultOf text (BadScriptLine number)
IsFaultOfText text Failed = ⊥
IsFaultOfText text Memory = Unit {0}

-- a bad line is that of some text, which the script's file held
abbrev pub IsFaultOfSome : WorldFault → Type 0
IsFaultOfSome (BadLine number) = (text : List ℕ) × IsFaultOf text (BadScriptLine number)
IsFaultOfSome Failed = Unit {0}
IsFaultOfSome Memory = Unit {0}
