use Rattle.object_store.proofs.LeftLemmas.{put_left, removal_left}
use Rattle.object_store.proofs.recovered.RecoveredGather.take_in.Goals as goal

pub returns-in_ok-insert-in-Put : goal.returns-in_ok-insert-in-Put
returns-in_ok-insert-in-Put c = λ entries are.
    let e = c.args.entry in
    put_left c.args.self.now.held c.insert.new.self entries e e.key (record { revision = e.revision; created = c.in-Put.created; body = c.in-Put.body }) c.in_ok-insert-in-Put.ensures.updates.0
    (λ i. record { key = e.key; revision = e.revision; change = c.in-Put.is i }) are

pub returns-in-Removal : goal.returns-in-Removal
returns-in-Removal c = λ entries are. removal_left c.args.self.now.held c.remove.new.self entries c.args.entry c.remove.ensures.updates.0 c.in-Removal.is are
