use Rattle.std.proofs.Common.{sym, subst}
use Rattle.object_journal.specs.declared.entry.Entry.{Entry}
use Rattle.object_store.specs.Records.{IsChanged}
use Rattle.object_store.proofs.ChangeLemmas.{put_changes, removal_changes}
use Rattle.object_store.proofs.places.change.Goals as goal

pub returns-in-Put : goal.returns-in-Put
returns-in-Put c =
    let e = c.args.entry in
    let old = c.args.items.now.items in
    let new = c.put.new.items.items in
    subst (λ (x : Entry). IsChanged old x new) (λ i. record { key = e.key; revision = e.revision; change = sym c.in-Put.is i })
    (put_changes old new (record { key = e.key; revision = e.revision; created = c.in-Put.created; body = c.in-Put.body }) c.put.ensures.changed)

pub returns-in-Removal : goal.returns-in-Removal
returns-in-Removal c = removal_changes c.args.items.now.items c.take_out.new.items.items c.args.entry c.in-Removal.is c.take_out.ensures
