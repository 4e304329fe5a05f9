use Rattle.std.proofs.Common.{take}
use Rattle.runtime_config.specs.Rows.{entries_of}
use Rattle.runtime_config.specs.Serving.{AreNamesOn}
use Rattle.runtime_config.proofs.served.name_set.Given as goal

abbrev pub invariant-loop-row : goal.invariant-loop-row
invariant-loop-row l = AreNamesOn l.index l.booleans (entries_of (take l.row-index l.rows)) l.set.keys
