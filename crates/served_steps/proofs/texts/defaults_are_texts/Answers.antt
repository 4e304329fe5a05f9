use Rattle.std.proofs.Common.{All, IfSome, subst, arith}
use Rattle.std.proofs.lemmas.List.{take_all}
use Rattle.std.proofs.lemmas.List.Elements.{All-more}
use Rattle.fields.specs.declared.table.FieldRow.{FieldRow}
use Rattle.served_steps.specs.Texts.{IsTextDefault}
use Rattle.served_steps.proofs.texts.defaults_are_texts.Goals as goal

abbrev HasText : FieldRow → Type 0
HasText row = IfSome row.default IsTextDefault

pub loop-row-preserved : goal.loop-row-preserved
loop-row-preserved c =
    All-more HasText c.args.rows.now c.loop-row.row-index c.row-item.result (omega arith) c.loop-row.invariant (subst HasText c.row-item.is c.row_has_text.ensures)

pub returns : goal.returns
returns c = subst (All HasText) (take_all c.loop-row.row-index c.args.rows.now (omega arith)) c.loop-row.invariant
