use Rattle.served_steps.proofs.ChangeLemmas.{are_storable}
use Rattle.served_steps.proofs.law.changes_are_storable.Goals as goal

pub returns : goal.returns
returns c = are_storable c.args.back.now c.args.machine.now c.view_finds_each.ensures c.view_is_kept.ensures
