use Rattle.std.proofs.Common.{◌++◌, ◌∷◌, [], Some, refl, sym, subst, arith}
use Rattle.object_journal.proofs.StopLemmas.{is_not_ok, writes_so}
use Rattle.api_requests.proofs.ChangeLemmas.{stand_after, kept_after}
use Rattle.api_requests.proofs.CountLemmas.{few_records}
use Rattle.api_requests.proofs.StopLemmas.{leaves_state}
use Rattle.api_requests.proofs.WriteLemmas.{recalls_of}
use Rattle.api_requests.specs.Fields.{serving}
use Rattle.api_requests.specs.Finishing.{GoesOn, LeavesState, StandsOnDisk}
use Rattle.api_requests.specs.Prepared.{IsWriteOf}
use Rattle.api_requests.specs.Serving.{Serving}
use Rattle.api_requests.proofs.service.Service.store_change.Goals as goal

pub commit-requires-clause-may : goal.commit-requires-clause-may
commit-requires-clause-may g c =
    let d = g.D.Disk in
    let write = subst (λ (s : Serving). IsWriteOf s c.args.write) (sym c.self.view_is) c.requires.write in
    let (entries, h) = subst (StandsOnDisk d.tells (d.held c.args.disk.now) (d.pending c.args.disk.now)) (sym c.self.view_is) c.requires.stands in
    (entries, h, write.may entries (recalls_of d.tells (d.held c.args.disk.now) (d.pending c.args.disk.now) c.self.inside.store entries h))

pub returns-in_err-commit-clause-writes : goal.returns-in_err-commit-clause-writes
returns-in_err-commit-clause-writes g c told =
    let d = g.D.Disk in
    let old = c.args.disk.now in
    let write = subst (λ (s : Serving). IsWriteOf s c.args.write) (sym c.self.view_is) c.requires.write in
    let (entries, h) = subst (StandsOnDisk d.tells (d.held old) (d.pending old)) (sym c.self.view_is) c.requires.stands in
    writes_so d.clock d.may_leave d.held d.pending old c.commit.new.disk _ _ _ _ (λ ok. absurd (is_not_ok _ c.from_residual.ensures.0 ok))
    (λ images l. subst (λ (s : Serving). LeavesState (d.pending old) s (Some c.args.write.change) images) c.self.view_is
    (leaves_state (d.pending old) (serving c.self.inside) c.args.write images c.records_go_on_standing.ensures c.records_are_kept.ensures c.self.invariant.serves write h.records.ordered l))
    (c.commit.ensures.writes told)

pub apply-requires : goal.apply-requires
apply-requires g c =
    let d = g.D.Disk in
    let old = c.args.disk.now in
    let write = subst (λ (s : Serving). IsWriteOf s c.args.write) (sym c.self.view_is) c.requires.write in
    let (entries, h) = subst (StandsOnDisk d.tells (d.held old) (d.pending old)) (sym c.self.view_is) c.requires.stands in
    let few = few_records c.self.inside.store entries (recalls_of d.tells (d.held old) (d.pending old) c.self.inside.store entries h) in
    let counted = c.self.invariant.serves.stand.later.counted in
    let more = write.storable.room.more in
    let taken = write.room in
    let spare = c.self.invariant.room (omega arith) in
    record {
      held = write.storable.of_server.held;
      room = λ _. omega arith;
      revision = omega arith;
      records = omega arith;
    }

pub invariant_of-self-2 : goal.invariant_of-self-2
invariant_of-self-2 g c =
    let d = g.D.Disk in
    let old = c.args.disk.now in
    let write = subst (λ (s : Serving). IsWriteOf s c.args.write) (sym c.self.view_is) c.requires.write in
    let (entries, h) = subst (StandsOnDisk d.tells (d.held old) (d.pending old)) (sym c.self.view_is) c.requires.stands in
    let serves = c.self.invariant.serves in
    let none = c.commit.ensures.spare in
    record {
      serves = record {
        history = serves.history;
        one = serves.one;
        least = serves.least;
        stand = stand_after (serving c.self.inside) c.args.write serves write h.records.ordered c.commit.new.self.items c.apply.new.self.state c.in_ok-commit.ensures.changed c.apply.ensures.applied c.commit.new.self.journal.revision c.in_ok-commit.ensures.revision c.records_go_on_standing.ensures;
      };
      room = λ some. absurd (omega arith);
    }

pub returns-clause-on : goal.returns-clause-on
returns-clause-on g c =
    let d = g.D.Disk in
    let old = c.args.disk.now in
    let write = subst (λ (s : Serving). IsWriteOf s c.args.write) (sym c.self.view_is) c.requires.write in
    let (entries, h) = subst (StandsOnDisk d.tells (d.held old) (d.pending old)) (sym c.self.view_is) c.requires.stands in
    let next = c.apply.ensures.applied.revision in
    subst (λ (s : Serving). GoesOn s (serving (record { machine = c.self.inside.machine; back = c.self.inside.back; state = c.apply.new.self; store = c.commit.new.self }))) c.self.view_is
    (record {
      machine = refl;
      back = refl;
      later = omega arith;
      kept = kept_after (serving c.self.inside) c.args.write c.self.invariant.serves write h.records.ordered c.commit.new.self.items c.apply.new.self.state c.in_ok-commit.ensures.changed c.apply.ensures.applied c.commit.new.self.journal.revision c.in_ok-commit.ensures.revision c.records_are_kept.ensures;
    })

pub returns-clause-stands : goal.returns-clause-stands
returns-clause-stands g c =
    let d = g.D.Disk in
    let old = c.args.disk.now in
    let write = subst (λ (s : Serving). IsWriteOf s c.args.write) (sym c.self.view_is) c.requires.write in
    let (entries, h) = subst (StandsOnDisk d.tells (d.held old) (d.pending old)) (sym c.self.view_is) c.requires.stands in
    let may = write.may entries (recalls_of d.tells (d.held old) (d.pending old) c.self.inside.store entries h) in
    (entries ++ c.args.write.ready ∷ [], c.in_ok-commit.ensures.stands entries h may)

pub returns-clause-writes : goal.returns-clause-writes
returns-clause-writes g c told =
    let d = g.D.Disk in
    let old = c.args.disk.now in
    let write = subst (λ (s : Serving). IsWriteOf s c.args.write) (sym c.self.view_is) c.requires.write in
    let (entries, h) = subst (StandsOnDisk d.tells (d.held old) (d.pending old)) (sym c.self.view_is) c.requires.stands in
    writes_so d.clock d.may_leave d.held d.pending old c.commit.new.disk _ _ _ _ (λ ok. refl)
    (λ images l. subst (λ (s : Serving). LeavesState (d.pending old) s (Some c.args.write.change) images) c.self.view_is
    (leaves_state (d.pending old) (serving c.self.inside) c.args.write images c.records_go_on_standing.ensures c.records_are_kept.ensures c.self.invariant.serves write h.records.ordered l))
    (c.in_ok-commit.ensures.writes told)
