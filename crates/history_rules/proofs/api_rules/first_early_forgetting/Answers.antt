use Rattle.std.proofs.Common.{rules, arith, subst, Option}
use Rattle.lifecycle.specs.declared.entry.ApiEntry.{ApiEntry}
use Rattle.schemas.specs.ApiRules.{previous_of_version, IsForgottenLate, ForgetsLate}
use Rattle.schemas.proofs.PlaceLemmas.{each_more, each_whole, first_broken}
use Rattle.history_rules.proofs.LinkLemmas.{link_at}
use Rattle.history_rules.proofs.api_rules.first_early_forgetting.Goals as goal

pub returns-then-not-forgets_late : goal.returns-then-not-forgets_late
returns-then-not-forgets_late c = first_broken (ForgetsLate c.args.all.now) c.args.entries.now c.loop-i.i c.index-entries-i.result c.loop-i-test.true c.index-entries-i.is c.loop-i.invariant
    (subst (λ (o : Option ApiEntry). ¬ IsForgottenLate c.args.all.now o c.index-entries-i.result c.index-entries-i.result.change) (link_at previous_of_version c.args.entries.now c.args.previous.now c.loop-i.i c.index-entries-i.result c.index-previous-i.result c.requires c.loop-i-test.true c.index-entries-i.is c.index-previous-i.is) (search rules))

pub loop-i-preserved : goal.loop-i-preserved
loop-i-preserved c = each_more (ForgetsLate c.args.all.now) c.args.entries.now c.loop-i.i c.index-entries-i.result c.loop-i-test.true c.index-entries-i.is c.loop-i.invariant
    (subst (λ (o : Option ApiEntry). IsForgottenLate c.args.all.now o c.index-entries-i.result c.index-entries-i.result.change) (link_at previous_of_version c.args.entries.now c.args.previous.now c.loop-i.i c.index-entries-i.result c.index-previous-i.result c.requires c.loop-i-test.true c.index-entries-i.is c.index-previous-i.is) (search rules))

pub returns : goal.returns
returns c = each_whole (ForgetsLate c.args.all.now) c.args.entries.now c.loop-i.i (omega arith) c.loop-i.invariant
