use Rattle.std.proofs.Common.{List, [], ◌∷◌, ◌++◌}
use Rattle.object_journal.specs.declared.entry.Entry.{Entry}
use Rattle.object_journal.specs.HeldKeys.{AreHeld, Holds}
use Rattle.object_journal.proofs.HeldLemmas.{put_held, removal_held, on_ok_then, put_in_put, no_put_in_removal}
use Rattle.object_journal.proofs.held.take_in.Goals as goal

pub returns-in-Put : goal.returns-in-Put
returns-in-Put c =
    let old = c.args.held.now in
    let new = c.hold.new.held in
    let e = c.args.entry.now in
    on_ok_then c.hold.result (Holds old new e.key) ((entries : List Entry) → AreHeld old entries → AreHeld new (entries ++ e ∷ [])) (λ holds entries are. put_held old new entries e (put_in_put e.change c.in-Put.created c.in-Put.body c.in-Put.is) holds are) c.hold.ensures

pub returns-in-Removal : goal.returns-in-Removal
returns-in-Removal c = λ entries are. removal_held c.args.held.now c.release.new.held entries c.args.entry.now (no_put_in_removal c.args.entry.now.change c.in-Removal.is) c.release.ensures are
