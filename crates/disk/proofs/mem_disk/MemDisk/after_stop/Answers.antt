use Rattle.std.proofs.Common.{rules}
use Rattle.disk.specs.MemDisk.{state_at, mem_held}
use Rattle.disk.specs.Stops.{IsPicked}
use Rattle.disk.specs.declared.file.File.{File}
use Rattle.disk.proofs.TraitLemmas.{picked_images}
use Rattle.disk.proofs.mem_disk.MemDisk.after_stop.Goals as goal

pub returns-clause-image : goal.returns-clause-image
returns-clause-image c =
    let picked : (f : File) → IsPicked c.args.pick (state_at c.args.self.now c.args.t f) (mem_held c.new-2.result f) = search rules in
    picked_images c.args.self.now c.args.t c.args.pick (mem_held c.new-2.result) picked
