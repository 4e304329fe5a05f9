use Rattle.std.proofs.Common.{◌≡◌, true, false}
use Rattle.history_reader.proofs.TestLemmas.{mapped_fault}
use Rattle.history_reader.proofs.fault.row_fault.Goals as goal

pub returns-then-not-meets-clause-some : goal.returns-then-not-meets-clause-some
returns-then-not-meets-clause-some c =
    mapped_fault _ c.args.rows.now c.loop-row.row-index _ _ c.loop-row-test.true c.loop-row.invariant
    (λ m. let e : false ≡ true = c.if-not-meets.ensures.1 (rw c.value_of.ensures m) in cc)
    (λ i. record { array = c.args.array; index = c.args.index; member = c.name.ensures i })
