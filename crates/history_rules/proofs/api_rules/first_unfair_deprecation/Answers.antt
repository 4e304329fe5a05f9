use Rattle.std.proofs.Common.{rules, arith}
use Rattle.schemas.specs.ApiRules.{DeprecatesFairly}
use Rattle.schemas.proofs.PlaceLemmas.{each_more, each_whole, first_broken}
use Rattle.history_rules.proofs.api_rules.first_unfair_deprecation.Goals as goal

pub returns-then-not-is_fair : goal.returns-then-not-is_fair
returns-then-not-is_fair c = first_broken (DeprecatesFairly c.args.all.now) c.args.entries.now c.loop-i.i c.index-entries-i.result c.loop-i-test.true c.index-entries-i.is c.loop-i.invariant (search rules)

pub loop-i-preserved : goal.loop-i-preserved
loop-i-preserved c = each_more (DeprecatesFairly c.args.all.now) c.args.entries.now c.loop-i.i c.index-entries-i.result c.loop-i-test.true c.index-entries-i.is c.loop-i.invariant (search rules)

pub returns : goal.returns
returns c = each_whole (DeprecatesFairly c.args.all.now) c.args.entries.now c.loop-i.i (omega arith) c.loop-i.invariant
