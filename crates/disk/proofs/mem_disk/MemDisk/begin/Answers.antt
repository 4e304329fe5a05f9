use Rattle.std.proofs.Common.{◌+◌, ap, arith}
use Rattle.disk.specs.MemDisk.{State}
use Rattle.disk.specs.Slots.{first_in, held_in}
use Rattle.disk.proofs.MemLemmas.{stands_later, state_later}
use Rattle.disk.proofs.mem_disk.MemDisk.begin.Goals as goal

pub invariant_of-self-2 : goal.invariant_of-self-2
invariant_of-self-2 c = let i = c.self.inside in
    let s = stands_later (held_in i.slots) (first_in i.slots) i.log.items i.clock (i.clock + 1) (record { past = c.self.invariant.past; held = c.self.invariant.held }) (omega arith) in
    record { past = s.past; held = s.held }

pub returns-clause-held : goal.returns-clause-held
returns-clause-held c f = ap (λ (s : State). s.held) (state_later _ c.args.self.now c.self.view_is c.self.invariant.past (c.self.inside.clock + 1) (omega arith) f)
