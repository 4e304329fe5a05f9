use Rattle.object_journal.proofs.MendLemmas.{leaves_header}
use Rattle.object_journal.proofs.StopLemmas.{writes_so}
use Rattle.object_journal.proofs.opening.put_header.Goals as goal

pub returns-clause-writes : goal.returns-clause-writes
returns-clause-writes g c told =
    let d = g.D.Disk in
    let old = c.args.disk.now in
    writes_so d.clock d.may_leave d.held d.pending old c.put_still.new.disk _ _ _ _ (λ ok. ok) (λ i w. leaves_header (d.held old) (d.pending old) i (c.requires.fresh told) w) (c.put_still.ensures.writes told)
