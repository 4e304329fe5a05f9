use Rattle.std.proofs.Common.{ℕ, List, [], ◌∷◌, ◌++◌, ◌∙◌, ap}
use Rattle.disk.specs.declared.log.Change.TheVariants.{Wrote}
use Rattle.disk.specs.Slots.{first_in, held_in}
use Rattle.disk.proofs.MemLemmas.{entry_of, place_in, stands_written}
use Rattle.disk.proofs.mem_disk.MemDisk.write.Goals as goal

pub invariant_of-self-in_default : goal.invariant_of-self-in_default
invariant_of-self-in_default c = let i = c.self.inside in
    let s = stands_written (held_in i.slots) (held_in c.write.new.self) (first_in i.slots) (first_in c.write.new.self) i.log.items c.append.new.log.items i.clock c.args.file c.args.at c.args.bytes.now
    (record { past = c.self.invariant.past; held = c.self.invariant.held })
    (place_in _ c.args.self.now c.self.view_is (held_in i.slots) c.self.invariant.held c.args.file c.args.at c.requires.place) c.requires.short
    c.in_default.ensures.ok c.in_default.ensures.others c.in_default.ensures.first
    (c.in_ok-append.ensures.ok ∙ ap (λ (b : List ℕ). i.log.items ++ entry_of i.clock c.args.file (Wrote c.args.at b) ∷ []) c.in_ok-copy.ensures) in
    record { past = s.past; held = s.held }
