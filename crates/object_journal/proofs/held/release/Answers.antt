use Rattle.object_journal.proofs.HeldLemmas.{releases_now}
use Rattle.object_journal.proofs.held.release.Goals as goal

pub returns : goal.returns
returns c = releases_now c.args.held.now c.remove.new.self c.args.key.now c.remove.ensures.updates.0
