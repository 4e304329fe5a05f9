use Rattle.row_index.proofs.MadeLemmas.{holds_more}
use Rattle.row_index.proofs.made.by_id.Goals as goal

pub loop-field-preserved : goal.loop-field-preserved
loop-field-preserved c =
    holds_more c.args.fields.now c.loop-field.field-index c.field-item.result c.loop-field.held c.insert.new.self c.bytes-bytes.result.now c.requires c.loop-field-test.true c.field-item.is
    c.bytes-bytes.ensures c.in_ok-insert.ensures.ordered c.in_ok-insert.ensures.updates c.loop-field.invariant
