use Rattle.std.proofs.Common.{◌≡◌, take}
use Rattle.disk.specs.MemDisk.{replay, resting_state}
use Rattle.disk.specs.Stops.{IsLeft}
use Rattle.disk.proofs.stop.image_of.Given as goal

abbrev pub invariant-loop-entry : goal.invariant-loop-entry
invariant-loop-entry l = record {
  held : (replay l.t l.file (take l.entry-index l.log) (resting_state l.first)).held ≡ l.held.items;
  left : IsLeft l.pick (replay l.t l.file (take l.entry-index l.log) (resting_state l.first)).pending l.left.items;
}
