use Rattle.basis.proofs.FirstLemmas.{first_at}
use Rattle.request_body.specs.Writes.{IsProvided, IsMissing}
use Rattle.request_body.proofs.GivenLemmas.{provided}
use Rattle.request_body.proofs.TestLemmas.{all_more}
use Rattle.request_body.proofs.writes.first_missing_of.Goals as goal

pub returns-then-is_missing-clause-some : goal.returns-then-is_missing-clause-some
returns-then-is_missing-clause-some c =
    first_at (IsProvided c.args.fields.now) (IsMissing c.args.fields.now) c.args.rows.now c.loop-row.row-index c.row-item.result
    c.loop-row-test.true c.row-item.is c.loop-row.invariant (c.is_missing.ensures.0 c.if-is_missing.true)

pub loop-row-preserved : goal.loop-row-preserved
loop-row-preserved c =
    all_more (IsProvided c.args.fields.now) c.args.rows.now c.loop-row.row-index c.row-item.result c.loop-row-test.true c.row-item.is c.loop-row.invariant
    (provided c.args.fields.now c.row-item.result c.is_missing.result c.is_missing.ensures c.if-is_missing.false)
