use Rattle.std.proofs.Common.{take}
use Rattle.history_rules.specs.Followers.{HasFollowers}
use Rattle.history_rules.proofs.followers.follow.Given as goal

abbrev pub invariant-loop-entry : goal.invariant-loop-entry
invariant-loop-entry l = HasFollowers l.entries (take l.entry-index l.entries) l.followers
