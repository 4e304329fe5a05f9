use Rattle.std.proofs.Common.{rules, arith, ◌≤◌}
use Rattle.schemas.proofs.PlaceLemmas.{each_more, each_whole, first_broken}
use Rattle.history_rules.proofs.late.first_late.Goals as goal

pub returns-then-gt : goal.returns-then-gt
returns-then-gt g c = first_broken (λ earlier x. g.E.Entry.since_of x ≤ c.args.last) c.args.entries.now c.loop-i.i c.index-entries-i.result c.loop-i-test.true c.index-entries-i.is c.loop-i.invariant (search rules)

pub loop-i-preserved : goal.loop-i-preserved
loop-i-preserved g c = each_more (λ earlier x. g.E.Entry.since_of x ≤ c.args.last) c.args.entries.now c.loop-i.i c.index-entries-i.result c.loop-i-test.true c.index-entries-i.is c.loop-i.invariant (search rules)

pub returns : goal.returns
returns g c = each_whole (λ earlier x. g.E.Entry.since_of x ≤ c.args.last) c.args.entries.now c.loop-i.i (omega arith) c.loop-i.invariant
