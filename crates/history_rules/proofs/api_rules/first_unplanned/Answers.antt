use Rattle.std.proofs.Common.{rules, arith, subst, Option}
use Rattle.lifecycle.specs.declared.entry.ApiEntry.{ApiEntry}
use Rattle.schemas.specs.ApiRules.{previous_of_version, IsKept, KeepsPlan}
use Rattle.schemas.proofs.PlaceLemmas.{each_more, each_whole, first_broken}
use Rattle.history_rules.proofs.LinkLemmas.{link_at}
use Rattle.history_rules.proofs.api_rules.first_unplanned.Goals as goal

pub returns-then-not-is_kept : goal.returns-then-not-is_kept
returns-then-not-is_kept c = first_broken (KeepsPlan c.args.all.now c.args.last) c.args.entries.now c.loop-i.i c.index-entries-i.result c.loop-i-test.true c.index-entries-i.is c.loop-i.invariant
    (subst (λ (o : Option ApiEntry). ¬ IsKept c.args.all.now c.args.last o c.index-entries-i.result c.index-entries-i.result.change) (link_at previous_of_version c.args.entries.now c.args.previous.now c.loop-i.i c.index-entries-i.result c.index-previous-i.result c.requires c.loop-i-test.true c.index-entries-i.is c.index-previous-i.is) (search rules))

pub loop-i-preserved : goal.loop-i-preserved
loop-i-preserved c = each_more (KeepsPlan c.args.all.now c.args.last) c.args.entries.now c.loop-i.i c.index-entries-i.result c.loop-i-test.true c.index-entries-i.is c.loop-i.invariant
    (subst (λ (o : Option ApiEntry). IsKept c.args.all.now c.args.last o c.index-entries-i.result c.index-entries-i.result.change) (link_at previous_of_version c.args.entries.now c.args.previous.now c.loop-i.i c.index-entries-i.result c.index-previous-i.result c.requires c.loop-i-test.true c.index-entries-i.is c.index-previous-i.is) (search rules))

pub returns : goal.returns
returns c = each_whole (KeepsPlan c.args.all.now c.args.last) c.args.entries.now c.loop-i.i (omega arith) c.loop-i.invariant
