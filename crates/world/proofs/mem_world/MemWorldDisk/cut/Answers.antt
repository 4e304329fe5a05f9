use Rattle.std.proofs.Common.{ap, subst}
use Rattle.disk.specs.Images.{Each, at_file, after_cut}
use Rattle.disk.specs.MemDisk.{MemRecord, mem_pending, mem_may_leave}
use Rattle.disk.specs.Moments.{Elapses}
use Rattle.world.specs.Worlds.{WorldRecord}
use Rattle.world.proofs.mem_world.MemWorldDisk.cut.Goals as goal

pub returns-clause-time : goal.returns-clause-time
returns-clause-time c = λ told.
    subst (λ (d : MemRecord). Elapses d.clock c.cut.new.self.clock (mem_may_leave d) (mem_may_leave c.cut.new.self)
    (λ _. Each (at_file c.args.file (after_cut c.args.to) (mem_pending d))))
    (ap (λ (w : WorldRecord). w.disk) c.self.view_is) c.cut.ensures.time
