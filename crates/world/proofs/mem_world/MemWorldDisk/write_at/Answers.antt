use Rattle.std.proofs.Common.{ap, subst, length}
use Rattle.disk.specs.Images.{Each, at_file, after_write}
use Rattle.disk.specs.MemDisk.{MemRecord, mem_pending, mem_may_leave}
use Rattle.disk.specs.Moments.{Elapses}
use Rattle.world.specs.Worlds.{WorldRecord}
use Rattle.world.proofs.mem_world.MemWorldDisk.write_at.Goals as goal

pub returns-clause-time : goal.returns-clause-time
returns-clause-time c = λ told.
    subst (λ (d : MemRecord). Elapses d.clock c.write_at.new.self.clock (mem_may_leave d) (mem_may_leave c.write_at.new.self)
    (λ _. Each (at_file c.args.file (after_write c.args.at (length c.args.bytes.now)) (mem_pending d))))
    (ap (λ (w : WorldRecord). w.disk) c.self.view_is) c.write_at.ensures.time
