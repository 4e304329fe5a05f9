use Rattle.std.proofs.Common.{[], ◌∷◌, ◌++◌, sym, ◌∙◌}
use Rattle.disk.specs.MemDisk.{mem_held, mem_pending}
use Rattle.object_store.proofs.StoreLaws.{recalled, with_room, may_with_room}
use Rattle.object_journal.proofs.StopLemmas.{at_ok}
use Rattle.storage_cases.proofs.store.remove.Goals as goal

pub commit-requires-clause-may : goal.commit-requires-clause-may
commit-requires-clause-may c =
    let (entries, h) = c.requires in
    let held = mem_held c.args.disk.now in
    let pending = mem_pending c.args.disk.now in
    let old = c.args.store.now in
    let new = c.ready_removal.new.self in
    let is = c.in-Ok.ensures.spare in
    (entries, with_room (Unit {0}) held pending old new entries is h, may_with_room old new entries c.in-Ok.ready is (c.in-Ok.ensures.may entries (recalled (Unit {0}) held pending old entries h)))

pub returns : goal.returns
returns c = λ done.
    let (entries, h) = c.requires in
    let held = mem_held c.args.disk.now in
    let pending = mem_pending c.args.disk.now in
    let old = c.args.store.now in
    let new = c.ready_removal.new.self in
    let is = c.in-Ok.ensures.spare in
    let stands = at_ok c.commit.result _ c.commit.ensures.stands (sym c.is_ok.ensures.value ∙ done) in
    (entries ++ c.in-Ok.ready ∷ [], stands entries (with_room (Unit {0}) held pending old new entries is h) (may_with_room old new entries c.in-Ok.ready is (c.in-Ok.ensures.may entries (recalled (Unit {0}) held pending old entries h))))
