use Rattle.std.proofs.lemmas.Result.{on_ok_weaker}
use Rattle.object_journal.specs.Standing.{chosen}
use Rattle.object_journal.proofs.AppendLemmas.{opened_gate, leaves_gate}
use Rattle.object_journal.proofs.StopLemmas.{writes_so}
use Rattle.object_journal.proofs.appending.open_gate.Goals as goal

pub returns-clause-opened : goal.returns-clause-opened
returns-clause-opened g c told =
    on_ok_weaker c.put_still.result (λ is base entries new ready may. opened_gate (g.D.Disk.held c.args.disk.now chosen) _ base entries new c.args.end ready may is) (c.put_still.ensures.written told)

pub returns-clause-writes : goal.returns-clause-writes
returns-clause-writes g c told =
    let d = g.D.Disk in
    let old = c.args.disk.now in
    writes_so d.clock d.may_leave d.held d.pending old c.put_still.new.disk _ _ _ _ (λ ok. ok) (λ i w. leaves_gate (d.held old) (d.pending old) i c.args.end w) (c.put_still.ensures.writes told)
