use Rattle.std.proofs.Common.{◌+◌, ◌∙◌, ap, length}
use Rattle.std.proofs.lemmas.Result.{on_ok_weaker}
use Rattle.disk.specs.Images.{patched}
use Rattle.object_journal.specs.Standing.{chosen}
use Rattle.object_journal.proofs.AppendLemmas.{ready_now, leaves_record}
use Rattle.object_journal.proofs.StopLemmas.{writes_so}
use Rattle.object_journal.proofs.appending.put_record.Goals as goal

pub returns-clause-ready : goal.returns-clause-ready
returns-clause-ready g c told =
    on_ok_weaker c.put_still.result (λ is base entries at. ready_now (g.D.Disk.held c.args.disk.now chosen) _ c.bytes.result.now base entries c.args.framed.now c.args.end at c.bytes.ensures is) (c.put_still.ensures.written told)

pub returns-clause-writes : goal.returns-clause-writes
returns-clause-writes g c told =
    let d = g.D.Disk in
    let old = c.args.disk.now in
    writes_so d.clock d.may_leave d.held d.pending old c.put_still.new.disk _ _ _ _ (λ ok. ok) (λ i w. leaves_record (d.held old) (d.pending old) i c.args.end (length c.bytes.result.now) w) (c.put_still.ensures.writes told)

pub returns-clause-written : goal.returns-clause-written
returns-clause-written g c told =
    on_ok_weaker c.put_still.result (λ is. is ∙ ap (λ bytes. patched (g.D.Disk.held c.args.disk.now chosen) (c.args.end + 1) bytes) c.bytes.ensures.bytes_are) (c.put_still.ensures.written told)
