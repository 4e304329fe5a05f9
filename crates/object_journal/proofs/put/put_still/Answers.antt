use Rattle.std.proofs.Common.{length}
use Rattle.object_journal.proofs.StopLemmas.{at_ok, is_not_ok, write_alone, write_and_sync}
use Rattle.object_journal.proofs.put.put_still.Goals as goal

pub returns-in_err-write_at-clause-writes : goal.returns-in_err-write_at-clause-writes
returns-in_err-write_at-clause-writes g c told =
    let d = g.D.Disk in
    let e = c.write_at.ensures in
    write_alone d.clock d.may_leave d.held d.pending c.args.disk.now c.write_at.new.self c.args.at (length c.args.bytes.now) _ (λ ok. absurd (is_not_ok _ c.from_residual.ensures.0 ok)) (c.requires.still told) (e.others told) (e.pending told) (e.time told)

pub returns-clause-writes : goal.returns-clause-writes
returns-clause-writes g c told =
    let d = g.D.Disk in
    let e = c.write_at.ensures in
    let s = c.sync.ensures in
    write_and_sync d.clock d.may_leave d.held d.pending c.args.disk.now c.write_at.new.self c.sync.new.self c.args.at (length c.args.bytes.now) _ (at_ok c.sync.result _ (s.still told)) (c.requires.still told) (e.others told) (e.pending told) (s.held told) (s.others told) (e.time told) (s.time told)
