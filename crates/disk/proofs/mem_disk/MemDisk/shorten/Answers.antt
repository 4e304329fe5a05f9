use Rattle.disk.specs.Slots.{first_in, held_in}
use Rattle.disk.proofs.MemLemmas.{stands_cut}
use Rattle.disk.proofs.mem_disk.MemDisk.shorten.Goals as goal

pub invariant_of-self-in_default : goal.invariant_of-self-in_default
invariant_of-self-in_default c = let i = c.self.inside in
    let s = stands_cut (held_in i.slots) (held_in c.cut.new.self) (first_in i.slots) (first_in c.cut.new.self) i.log.items c.append.new.log.items i.clock c.args.file c.args.to
    (record { past = c.self.invariant.past; held = c.self.invariant.held })
    c.in_default.ensures.ok c.in_default.ensures.others c.in_default.ensures.first c.in_ok-append.ensures.ok in
    record { past = s.past; held = s.held }
