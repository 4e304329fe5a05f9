use Rattle.std.proofs.Common.{rules, arith}
use Rattle.schemas.specs.SpellRules.{FitsField}
use Rattle.schemas.proofs.PlaceLemmas.{each_more, each_whole, first_broken}
use Rattle.field_rules.proofs.on_spellings.first_unfit.Goals as goal

pub returns-then-not-fits_field : goal.returns-then-not-fits_field
returns-then-not-fits_field c = first_broken (FitsField c.args.index.now.fields) c.args.spells.now c.loop-i.i c.index-spells-i.result c.loop-i-test.true c.index-spells-i.is c.loop-i.invariant (search rules)

pub loop-i-preserved : goal.loop-i-preserved
loop-i-preserved c = each_more (FitsField c.args.index.now.fields) c.args.spells.now c.loop-i.i c.index-spells-i.result c.loop-i-test.true c.index-spells-i.is c.loop-i.invariant (search rules)

pub returns : goal.returns
returns c = each_whole (FitsField c.args.index.now.fields) c.args.spells.now c.loop-i.i (omega arith) c.loop-i.invariant
