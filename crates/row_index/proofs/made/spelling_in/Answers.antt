use Rattle.std.proofs.Common.{sym}
use Rattle.row_index.proofs.MadeLemmas.{spelling_here, spelling_later}
use Rattle.row_index.proofs.made.spelling_in.Goals as goal

pub returns-then-eq : goal.returns-then-eq
returns-then-eq c = spelling_here c.args.spells.now c.loop-spell.spell-index c.spell-item.result c.args.field.now c.loop-spell-test.true c.spell-item.is (sym c.if-eq.ensures) c.loop-spell.invariant

pub loop-spell-preserved : goal.loop-spell-preserved
loop-spell-preserved c = spelling_later c.args.spells.now c.loop-spell.spell-index c.spell-item.result c.args.field.now c.loop-spell-test.true c.spell-item.is (sym c.if-eq.ensures) c.loop-spell.invariant
