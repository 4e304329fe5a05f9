use Rattle.std.proofs.Common.{[], ◌∷◌, refl, sym, ap, ◌∙◌, max, length, length-append, arith}
use Rattle.object_journal.proofs.StopLemmas.{is_not_ok, writes_so, writes_on}
use Rattle.object_journal.specs.Standing.{chosen, IsGatedAt, LeavesAppend}
use Rattle.object_journal.specs.Payload.{frame_bytes}
use Rattle.object_journal.specs.Frames.{closed_gate}
use Rattle.object_journal.proofs.EntryLaws.{lawful_more, revision_more}
use Rattle.object_journal.proofs.AppendLemmas.{leaves_first, either_back, end_more}
use Rattle.object_journal.proofs.appending.Journal.append.Goals as goal

pub returns-in_err-put_record-clause-writes : goal.returns-in_err-put_record-clause-writes
returns-in_err-put_record-clause-writes g c told =
    let d = g.D.Disk in
    let old = c.args.disk.now in
    let base = c.args.self.now.base in
    let x = c.args.framed.now in
    writes_so d.clock d.may_leave d.held d.pending old c.put_record.new.disk _ _ _ (LeavesAppend d.tells (d.held old) (d.pending old) c.args.self.now x) (λ ok. absurd (is_not_ok _ c.from_residual.ensures.0 ok))
    (λ i w entries s may. leaves_first (d.pending old) i base entries x (w base entries (record { gated = s.gated told; place_is = s.end_is })))
    (c.put_record.ensures.writes told)

pub returns-in_err-open_gate-clause-writes : goal.returns-in_err-open_gate-clause-writes
returns-in_err-open_gate-clause-writes g c told =
    let d = g.D.Disk in
    let old = c.args.disk.now in
    let mid = c.put_record.new.disk in
    let base = c.args.self.now.base in
    let x = c.args.framed.now in
    let first = c.put_record.ensures.writes told in
    writes_on d.clock d.may_leave d.held d.pending old mid c.open_gate.new.disk _ _ _ _ (LeavesAppend d.tells (d.held old) (d.pending old) c.args.self.now x)
    (λ i w entries s may. leaves_first (d.pending old) i base entries x (w base entries (record { gated = s.gated told; place_is = s.end_is })))
    (λ i w entries s may. either_back (d.held old) (d.held mid) (d.pending old) (d.pending mid) i base entries x first.others (w base entries x (c.in_ok-put_record.ensures.ready told base entries (record { gated = s.gated told; place_is = s.end_is })) may))
    first (writes_so d.clock d.may_leave d.held d.pending mid c.open_gate.new.disk _ _ _ _ (λ ok. absurd (is_not_ok _ c.from_residual-in_err-open_gate.ensures.0 ok)) (λ i w. w) (c.open_gate.ensures.writes told))

pub returns-clause-writes : goal.returns-clause-writes
returns-clause-writes g c told =
    let d = g.D.Disk in
    let old = c.args.disk.now in
    let mid = c.put_record.new.disk in
    let base = c.args.self.now.base in
    let x = c.args.framed.now in
    let first = c.put_record.ensures.writes told in
    writes_on d.clock d.may_leave d.held d.pending old mid c.open_gate.new.disk _ _ _ _ (LeavesAppend d.tells (d.held old) (d.pending old) c.args.self.now x)
    (λ i w entries s may. leaves_first (d.pending old) i base entries x (w base entries (record { gated = s.gated told; place_is = s.end_is })))
    (λ i w entries s may. either_back (d.held old) (d.held mid) (d.pending old) (d.pending mid) i base entries x first.others (w base entries x (c.in_ok-put_record.ensures.ready told base entries (record { gated = s.gated told; place_is = s.end_is })) may))
    first (c.in_ok-open_gate.ensures.writes told)

pub returns-clause-stands : goal.returns-clause-stands
returns-clause-stands g c entries s may =
    let d = g.D.Disk in
    let base = c.args.self.now.base in
    let x = c.args.framed.now in record {
      going = refl;
      base_fits = s.base_fits;
      lawful = lawful_more base entries x s.lawful may;
      revision = c.max-self.ensures ∙ (λ i. max (s.revision i) (c.revision.ensures i)) ∙ sym (revision_more base entries x);
      end_is = end_more base c.args.self.now.end entries x c.bytes.result.now s.end_is c.bytes.ensures;
      short = omega (arith, c.in_ok-put_record.ensures.short, ap length c.bytes.ensures.bytes_are, length-append (frame_bytes x) (closed_gate ∷ []));
      still = λ told. (c.in_ok-open_gate.ensures.writes told).still refl;
      gated = λ told.
          let at : IsGatedAt (d.held c.args.disk.now chosen) base entries c.args.self.now.end = record { gated = s.gated told; place_is = s.end_is } in
          c.in_ok-open_gate.ensures.opened told base entries x (c.in_ok-put_record.ensures.ready told base entries at) may;
    }
