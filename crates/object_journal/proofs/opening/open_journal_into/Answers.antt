use Rattle.std.proofs.Common.{refl, subst, ◌∙◌, inl, inr}
use Rattle.std.proofs.lemmas.Result.{IfOk-weaker}
use Rattle.disk.specs.Images.{Images}
use Rattle.object_journal.specs.Journal.{IsJournal, IsRefusal}
use Rattle.object_journal.specs.Standing.{chosen}
use Rattle.object_journal.proofs.OpenLemmas.{rises, opens, opens_still, still_first, not_refused}
use Rattle.object_journal.proofs.StopLemmas.{stay_twice}
use Rattle.object_journal.proofs.opening.open_journal_into.Goals as goal

pub returns-in-Ok-clause-opens : goal.returns-in-Ok-clause-opens
returns-in-Ok-clause-opens g c told =
    let d = g.D.Disk in
    let old = c.args.disk.now in
    let mid = c.sync.new.self in
    let new = c.open_still.new.disk in
    let s = c.sync.ensures in
    let e = c.open_still.ensures in
    let held = s.held told in
    let rose = rises (d.clock old) (d.clock mid) c.sync.result _ c.in-Ok.is s.clock in
    record {
      refused = λ file at is. let r = e.refused told file at is in (r.0, subst (λ (h : Images). IsRefusal (h chosen) at) held r.1, r.2 ∙ held);
      still = e.synced told;
      time = inr (opens d.clock d.may_leave d.held d.pending old mid new rose s.clock.by_one held (c.in-Ok.ensures.still told) (s.others told) (λ i now. g.met.D.Disk.images_now mid i told now) (s.time told) (e.time told));
      rested = λ still. opens_still d.clock d.may_leave d.held d.pending old mid new still held (s.others told) (s.time told) (e.time told);
      others = stay_twice (d.held old) (d.held mid) (d.held new) (d.pending old) (d.pending mid) (d.pending new) (record { held = λ f other. (λ k. held k f); pending = s.others told }) (e.others told);
    }

pub returns-in-Err-clause-opens : goal.returns-in-Err-clause-opens
returns-in-Err-clause-opens g c told =
    let d = g.D.Disk in
    let old = c.args.disk.now in
    let s = c.sync.ensures in
    record {
      refused = λ file at is. absurd (not_refused _ file at refl is);
      still = λ good. absurd (good refl);
      time = inl (refl, record { once = s.clock.by_one; same = s.held told; within = c.in-Err.ensures.failed told; time = s.time told });
      rested = λ still. still_first d.clock d.may_leave d.held d.pending old c.sync.new.self still (s.time told);
      others = record { held = λ f other. (λ k. s.held told k f); pending = s.others told };
    }

pub returns-in-Ok-clause-opened : goal.returns-in-Ok-clause-opened
returns-in-Ok-clause-opened g c =
    let d = g.D.Disk in
    IfOk-weaker c.open_still.result _ _ (λ r o. (o.0, o.1, o.2, λ told. subst (λ (h : Images). IsJournal (h chosen) r.0.base o.0) (c.in-Ok.ensures.held told) (o.3 told))) c.open_still.ensures.opened
