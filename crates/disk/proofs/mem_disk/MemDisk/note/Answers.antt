use Rattle.std.proofs.Common.{List, subst, sym}
use Rattle.disk.specs.Slots.{first_in, held_in}
use Rattle.disk.specs.declared.log.Entry.{Entry}
use Rattle.disk.proofs.MemLemmas.{Stands, stands_noted}
use Rattle.disk.proofs.mem_disk.MemDisk.note.Goals as goal

pub invariant_of-self-2 : goal.invariant_of-self-2
invariant_of-self-2 c = let i = c.self.inside in
    let s = subst (λ (l : List Entry). Stands (held_in i.slots) (first_in i.slots) l i.clock) (sym c.in_ok-append.ensures.ok) (stands_noted (held_in i.slots) (first_in i.slots) i.log.items i.clock c.args.file c.args.change (record { past = c.self.invariant.past; held = c.self.invariant.held }) c.requires) in
    record { past = s.past; held = s.held }
