use Rattle.std.proofs.Common.{subst}
use Rattle.object_journal.specs.declared.key.Key.{Key}
use Rattle.object_journal.specs.HeldKeys.{Holds}
use Rattle.object_journal.proofs.HeldLemmas.{holds_now}
use Rattle.object_journal.proofs.held.hold.Goals as goal

pub returns : goal.returns
returns c = subst (λ (k : Key). Holds c.args.held.now c.insert.new.self k) c.in_ok-duplicate.ensures (holds_now c.args.held.now c.insert.new.self c.in_ok-duplicate.field-0 c.in-Ok.ensures.updates.0)
