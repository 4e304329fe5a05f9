use Rattle.std.proofs.Common.{rules, arith, subst, Option}
use Rattle.lifecycle.specs.declared.entry.ApiEntry.{ApiEntry}
use Rattle.schemas.specs.ApiRules.{previous_of_version, IsNext, StandsInOrder}
use Rattle.schemas.proofs.PlaceLemmas.{each_more, each_whole, first_broken}
use Rattle.history_rules.proofs.LinkLemmas.{link_at}
use Rattle.history_rules.proofs.api_rules.first_out_of_order.Goals as goal

pub returns-then-not-is_next : goal.returns-then-not-is_next
returns-then-not-is_next c = first_broken StandsInOrder c.args.entries.now c.loop-i.i c.index-entries-i.result c.loop-i-test.true c.index-entries-i.is c.loop-i.invariant
    (subst (λ (o : Option ApiEntry). ¬ IsNext o c.index-entries-i.result.since c.index-entries-i.result.change) (link_at previous_of_version c.args.entries.now c.args.previous.now c.loop-i.i c.index-entries-i.result c.index-previous-i.result c.requires c.loop-i-test.true c.index-entries-i.is c.index-previous-i.is) (search rules))

pub loop-i-preserved : goal.loop-i-preserved
loop-i-preserved c = each_more StandsInOrder c.args.entries.now c.loop-i.i c.index-entries-i.result c.loop-i-test.true c.index-entries-i.is c.loop-i.invariant
    (subst (λ (o : Option ApiEntry). IsNext o c.index-entries-i.result.since c.index-entries-i.result.change) (link_at previous_of_version c.args.entries.now c.args.previous.now c.loop-i.i c.index-entries-i.result c.index-previous-i.result c.requires c.loop-i-test.true c.index-entries-i.is c.index-previous-i.is) (search rules))

pub returns : goal.returns
returns c = each_whole StandsInOrder c.args.entries.now c.loop-i.i (omega arith) c.loop-i.invariant
