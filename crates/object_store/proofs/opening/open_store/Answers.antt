use Rattle.std.proofs.Common.{◌≡◌, ap, arith, inl, inr}
use Rattle.std.specs.Prelude.{Ok, Err}
use Rattle.object_journal.specs.declared.opening.OpenFault.TheVariants.{NotAStore, Disk, Memory}
use Rattle.object_store.proofs.OpenLemmas.{opens_store}
use Rattle.object_store.proofs.NextLemmas.{texts_of_records}
use Rattle.object_store.proofs.opening.open_store.Goals as goal

pub returns-in-Err-clause-opens : goal.returns-in-Err-clause-opens
returns-in-Err-clause-opens g c told =
    let d = g.D.Disk in
    let e = c.in-Err.ensures in
    opens_store d.clock d.may_leave d.held d.pending c.args.disk.now c.open_journal_into.new.disk (Err c.in-Err.fault) _
    (λ file at is. let there : c.in-Err.fault ≡ NotAStore file at = cc in ap Err there)
    (λ is. let there : c.in-Err.fault ≡ Disk = cc in ap Err there)
    (λ is. let there : c.in-Err.fault ≡ Memory = cc in inl (e.memory told (ap Err there)))
    (e.opens told)

pub returns-in-Ok-listed-clause-opens : goal.returns-in-Ok-listed-clause-opens
returns-in-Ok-listed-clause-opens g c told =
    let d = g.D.Disk in
    opens_store d.clock d.may_leave d.held d.pending c.args.disk.now c.open_journal_into.new.disk (Ok c.in-Ok.opened) _
    (λ file at is. cc) (λ is. cc) (λ is. cc) (c.in-Ok.ensures.opens told)

pub returns-in-Err-listed-clause-opens : goal.returns-in-Err-listed-clause-opens
returns-in-Err-listed-clause-opens g c told =
    let d = g.D.Disk in
    let o = c.in-Ok.ensures.opened in
    opens_store d.clock d.may_leave d.held d.pending c.args.disk.now c.open_journal_into.new.disk (Ok c.in-Ok.opened) _
    (λ file at is. cc) (λ is. cc)
    (λ is. inr (record {
      base = c.in-Ok.opened.0.base;
      entries = o.0;
      first = o.3 told;
      second = inr (inr (o.2.gated told));
      mended = c.in-Ok.ensures.mended told;
    }))
    (c.in-Ok.ensures.opens told)

pub returns-in-Ok-listed-clause-recovered : goal.returns-in-Ok-listed-clause-recovered
returns-in-Ok-listed-clause-recovered g c told =
    let o = c.in-Ok.ensures.opened in
    record {
      base = c.in-Ok.opened.0.base;
      entries = o.0;
      means = o.3 told;
      records = c.in-Ok-listed.ensures o.0 o.1;
      revision_is = o.2.revision;
    }

pub invariant_of-result : goal.invariant_of-result
invariant_of-result g c =
    let o = c.in-Ok.ensures.opened in
    let records = c.in-Ok-listed.ensures o.0 o.1 in
    record {
      ordered = records.ordered;
      texts = texts_of_records c.in-Ok.opened.0.base o.0 c.in-Ok-listed.items.items o.2.lawful records;
      room = λ some. absurd (omega (arith, some));
    }
