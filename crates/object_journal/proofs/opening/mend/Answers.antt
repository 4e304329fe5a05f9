use Rattle.std.proofs.Common.{refl, sym, ◌∙◌, ◌≤◌, length, arith, inl}
use Rattle.object_journal.specs.Standing.{chosen}
use Rattle.object_journal.proofs.MendLemmas.{gate_alone_means, fresh_means, none_back}
use Rattle.object_journal.proofs.StopLemmas.{is_not_ok, writes_none, writes_so, writes_on}
use Rattle.object_journal.proofs.opening.mend.Goals as goal

pub returns-then-len-gt17-clause-writes : goal.returns-then-len-gt17-clause-writes
returns-then-len-gt17-clause-writes g c told =
    let d = g.D.Disk in
    writes_none d.clock d.may_leave d.held d.pending c.args.disk.now _ _ (λ ok. c.requires.still told)

pub returns-then-len-eq17-clause-writes : goal.returns-then-len-eq17-clause-writes
returns-then-len-eq17-clause-writes g c told =
    let d = g.D.Disk in
    let old = c.args.disk.now in
    writes_so d.clock d.may_leave d.held d.pending old c.put_gate.new.disk _ _ _ _ (λ ok. ok) (λ i w. gate_alone_means (d.held old) (d.pending old) i (sym (c.requires.len told) ∙ c.if-len-eq17.true) w) (c.put_gate.ensures.writes told)

pub returns-in_err-put_header-clause-writes : goal.returns-in_err-put_header-clause-writes
returns-in_err-put_header-clause-writes g c told =
    let d = g.D.Disk in
    let old = c.args.disk.now in
    let short : length (d.held old chosen) ≤ 16 = omega (arith, c.requires.len told, c.if-len-eq17.false, c.if-len-gt17.false) in
    writes_so d.clock d.may_leave d.held d.pending old c.put_header.new.disk _ _ _ _ (λ ok. absurd (is_not_ok _ c.from_residual.ensures.0 ok)) (λ i w. fresh_means (d.held old) (d.pending old) i short w) (c.put_header.ensures.writes told)

pub returns-clause-writes : goal.returns-clause-writes
returns-clause-writes g c told =
    let d = g.D.Disk in
    let old = c.args.disk.now in
    let mid = c.put_header.new.disk in
    let first = c.put_header.ensures.writes told in
    let short : length (d.held old chosen) ≤ 16 = omega (arith, c.requires.len told, c.if-len-eq17.false, c.if-len-gt17.false) in
    writes_on d.clock d.may_leave d.held d.pending old mid c.put_gate-2.new.disk _ _ _ _ _
    (λ i w. fresh_means (d.held old) (d.pending old) i short w)
    (λ i w. fresh_means (d.held old) (d.pending old) i short (none_back (d.held old) (d.held mid) (d.pending old) (d.pending mid) i first.others (w 0 (inl (c.in_ok-put_header.ensures.written told, refl)))))
    first (c.put_gate-2.ensures.writes told)
