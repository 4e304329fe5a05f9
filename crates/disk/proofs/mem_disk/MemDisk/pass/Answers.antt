use Rattle.std.proofs.Common.{arith}
use Rattle.disk.specs.Slots.{first_in, held_in}
use Rattle.disk.proofs.MemLemmas.{stands_later}
use Rattle.disk.proofs.TraitLemmas.{pass_leaves}
use Rattle.disk.proofs.mem_disk.MemDisk.pass.Goals as goal

pub invariant_of-self : goal.invariant_of-self
invariant_of-self c = let i = c.self.inside in
    let s = stands_later (held_in i.slots) (first_in i.slots) i.log.items i.clock c.saturating_add-self-inside.result (record { past = c.self.invariant.past; held = c.self.invariant.held }) (omega arith) in
    record { past = s.past; held = s.held }

pub returns-clause-held : goal.returns-clause-held
returns-clause-held c = (pass_leaves _ c.args.self.now c.self.view_is c.self.invariant.past c.saturating_add-self-inside.result (omega arith)).held

pub returns-clause-pending : goal.returns-clause-pending
returns-clause-pending c = (pass_leaves _ c.args.self.now c.self.view_is c.self.invariant.past c.saturating_add-self-inside.result (omega arith)).pending

pub returns-clause-time : goal.returns-clause-time
returns-clause-time c = (pass_leaves _ c.args.self.now c.self.view_is c.self.invariant.past c.saturating_add-self-inside.result (omega arith)).time

pub returns-clause-images : goal.returns-clause-images
returns-clause-images c = (pass_leaves _ c.args.self.now c.self.view_is c.self.invariant.past c.saturating_add-self-inside.result (omega arith)).images
