use Rattle.std.proofs.Common.{◌++◌, take, arith}
use Rattle.std.proofs.KnownBytes.{Consumes-trans}
use Rattle.std.proofs.lemmas.List.{length-append, length-take}
use Rattle.emu_server.proofs.taking.take_history.Goals as goal

-- the bytes taken before, and those of the last read
pub returns-in_default-extend_from_slice-clause-taken : goal.returns-in_default-extend_from_slice-clause-taken
returns-in_default-extend_from_slice-clause-taken g c =
    let count_is = c.in-Ok.ensures.bound.1 in (
      c.loop-buffer.taken.items ++ take c.in-Ok.count c.read.new.into,
      omega (arith, c.in-Ok.ensures.bound.0, count_is, length-append c.loop-buffer.taken.items (take c.in-Ok.count c.read.new.into), length-take c.min-room.result c.loop-buffer.buffer),
      Consumes-trans _ _ _ _ _ c.loop-buffer.invariant.bytes c.in-Ok.ensures.bytes.0,
    )
