use Rattle.std.proofs.Common.{ℕ, List}
use Rattle.lifecycle.specs.declared.entry.ApiEntry.{ApiEntry}
use Rattle.history_rules.specs.declared.dates.Event.TheVariants.{Forgetting}
use Rattle.history_rules.specs.Dates.{HasEarliest}
use Rattle.history_rules.specs.Followers.{HasFollowers, PutsLater}
use Rattle.history_rules.proofs.DateLemmas.{on_ok}
use Rattle.history_rules.proofs.FollowerLemmas.{follower_taken, follower_passed}
use Rattle.history_rules.proofs.followers.take_in.Goals as goal

pub returns-in-Deprecated : goal.returns-in-Deprecated
returns-in-Deprecated c = on_ok c.put_later.result
    (λ (put : PutsLater c.args.entry.now c.in-Deprecated.replacement c.forgotten_in.result c.args.followers.now c.put_later.new.followers) (all entries : List ApiEntry) (dated : HasEarliest Forgetting all c.args.forgotten.now) (before : HasFollowers all entries c.args.followers.now).
    follower_taken c.args.entry.now c.in-Deprecated.removal c.in-Deprecated.replacement c.forgotten_in.result c.args.followers.now c.put_later.new.followers c.in-Deprecated.is put all entries (λ (e : ℕ). c.forgotten_in.ensures all e dated) before)
    c.put_later.ensures

pub returns-in_default : goal.returns-in_default
returns-in_default c = λ (all entries : List ApiEntry) (dated : HasEarliest Forgetting all c.args.forgotten.now) (before : HasFollowers all entries c.args.followers.now).
    follower_passed c.args.entry.now c.args.followers.now c.in_default.not-Deprecated all entries before
