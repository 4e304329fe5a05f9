use Rattle.std.proofs.Common.{rules, arith}
use Rattle.schemas.specs.FieldRules.{IsRequiredFairly}
use Rattle.schemas.proofs.PlaceLemmas.{each_more, each_whole, first_broken}
use Rattle.field_rules.proofs.on_fields.first_unfairly_required.Goals as goal

pub returns-then-not-is_required_fairly : goal.returns-then-not-is_required_fairly
returns-then-not-is_required_fairly c = first_broken (IsRequiredFairly c.args.index.now.apis) c.args.fields.now c.loop-i.i c.index-fields-i.result c.loop-i-test.true c.index-fields-i.is c.loop-i.invariant (search rules)

pub loop-i-preserved : goal.loop-i-preserved
loop-i-preserved c = each_more (IsRequiredFairly c.args.index.now.apis) c.args.fields.now c.loop-i.i c.index-fields-i.result c.loop-i-test.true c.index-fields-i.is c.loop-i.invariant (search rules)

pub returns : goal.returns
returns c = each_whole (IsRequiredFairly c.args.index.now.apis) c.args.fields.now c.loop-i.i (omega arith) c.loop-i.invariant
