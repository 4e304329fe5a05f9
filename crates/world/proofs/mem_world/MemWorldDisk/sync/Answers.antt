use Rattle.std.proofs.Common.{ap, subst}
use Rattle.disk.specs.Images.{Each}
use Rattle.disk.specs.MemDisk.{MemRecord, mem_pending, mem_may_leave}
use Rattle.disk.specs.Moments.{Elapses}
use Rattle.world.specs.Worlds.{WorldRecord}
use Rattle.world.proofs.mem_world.MemWorldDisk.sync.Goals as goal

pub returns-clause-time : goal.returns-clause-time
returns-clause-time c = λ told.
    subst (λ (d : MemRecord). Elapses d.clock c.sync.new.self.clock (mem_may_leave d) (mem_may_leave c.sync.new.self) (λ _. Each (mem_pending d)))
    (ap (λ (w : WorldRecord). w.disk) c.self.view_is) c.sync.ensures.time
