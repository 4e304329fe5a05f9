use Rattle.std.proofs.Common.{rules, arith}
use Rattle.schemas.specs.GateRules.{FitsStage}
use Rattle.schemas.proofs.PlaceLemmas.{each_more, each_whole, first_broken}
use Rattle.history_rules.proofs.gate_rules.first_unfit_spec.Goals as goal

pub returns-then-not-fits_stage : goal.returns-then-not-fits_stage
returns-then-not-fits_stage c = first_broken FitsStage c.args.entries.now c.loop-i.i c.index-entries-i.result c.loop-i-test.true c.index-entries-i.is c.loop-i.invariant (search rules)

pub loop-i-preserved : goal.loop-i-preserved
loop-i-preserved c = each_more FitsStage c.args.entries.now c.loop-i.i c.index-entries-i.result c.loop-i-test.true c.index-entries-i.is c.loop-i.invariant (search rules)

pub returns : goal.returns
returns c = each_whole FitsStage c.args.entries.now c.loop-i.i (omega arith) c.loop-i.invariant
