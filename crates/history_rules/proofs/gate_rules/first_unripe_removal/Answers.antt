use Rattle.std.proofs.Common.{rules, arith, subst, Option}
use Rattle.gate_spec.specs.declared.entry.GateEntry.{GateEntry}
use Rattle.schemas.specs.GateRules.{previous_of_gate, IsRipe, FollowsLockedSpec}
use Rattle.schemas.proofs.PlaceLemmas.{each_more, each_whole, first_broken}
use Rattle.history_rules.proofs.LinkLemmas.{link_at}
use Rattle.history_rules.proofs.gate_rules.first_unripe_removal.Goals as goal

pub returns-then-not-is_ripe : goal.returns-then-not-is_ripe
returns-then-not-is_ripe c = first_broken FollowsLockedSpec c.args.entries.now c.loop-i.i c.index-entries-i.result c.loop-i-test.true c.index-entries-i.is c.loop-i.invariant
    (subst (λ (o : Option GateEntry). ¬ IsRipe o c.index-entries-i.result.since c.index-entries-i.result.change) (link_at previous_of_gate c.args.entries.now c.args.previous.now c.loop-i.i c.index-entries-i.result c.index-previous-i.result c.requires c.loop-i-test.true c.index-entries-i.is c.index-previous-i.is) (search rules))

pub loop-i-preserved : goal.loop-i-preserved
loop-i-preserved c = each_more FollowsLockedSpec c.args.entries.now c.loop-i.i c.index-entries-i.result c.loop-i-test.true c.index-entries-i.is c.loop-i.invariant
    (subst (λ (o : Option GateEntry). IsRipe o c.index-entries-i.result.since c.index-entries-i.result.change) (link_at previous_of_gate c.args.entries.now c.args.previous.now c.loop-i.i c.index-entries-i.result c.index-previous-i.result c.requires c.loop-i-test.true c.index-entries-i.is c.index-previous-i.is) (search rules))

pub returns : goal.returns
returns c = each_whole FollowsLockedSpec c.args.entries.now c.loop-i.i (omega arith) c.loop-i.invariant
