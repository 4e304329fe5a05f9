use Rattle.std.proofs.Common.{refl, sym, subst}
use Rattle.object_journal.proofs.StopLemmas.{is_not_ok, writes_so}
use Rattle.plain_machine.specs.Deciding.{IsDecided}
use Rattle.api_requests.proofs.RoomLemmas.{goes_on_before, leaves_before}
use Rattle.api_requests.proofs.StopLemmas.{leaves_step}
use Rattle.api_requests.specs.Prepared.{decided_of}
use Rattle.api_requests.specs.Serving.{Serving}
use Rattle.api_requests.proofs.service.Service.handle.Goals as goal

pub returns-in_err-finish-clause-writes : goal.returns-in_err-finish-clause-writes
returns-in_err-finish-clause-writes g c told =
    let d = g.D.Disk in
    let old = c.args.disk.now in
    let q = c.args.request.now in
    let same = c.in_ok-prepared.ensures.same in
    let decided = subst (λ (s : Serving). IsDecided s.machine s.state q (decided_of c.in_ok-prepared.prepared)) (sym same) c.in_ok-prepared.ensures.decided in
    writes_so d.clock d.may_leave d.held d.pending old c.finish.new.disk _ _ _ _ (λ ok. absurd (is_not_ok _ c.from_residual-in_err-finish.ensures.0 ok))
    (λ images l. leaves_before (d.pending old) c.args.self.now c.prepare.new.self q images same (leaves_step (d.pending old) c.prepare.new.self q (decided_of c.in_ok-prepared.prepared) images decided l))
    (c.finish.ensures.writes told)

pub returns-clause-on : goal.returns-clause-on
returns-clause-on g c =
    goes_on_before c.args.self.now c.prepare.new.self c.finish.new.self c.in_ok-prepared.ensures.same c.in_ok-finish.ensures.on

pub returns-clause-writes : goal.returns-clause-writes
returns-clause-writes g c told =
    let d = g.D.Disk in
    let old = c.args.disk.now in
    let q = c.args.request.now in
    let same = c.in_ok-prepared.ensures.same in
    let decided = subst (λ (s : Serving). IsDecided s.machine s.state q (decided_of c.in_ok-prepared.prepared)) (sym same) c.in_ok-prepared.ensures.decided in
    writes_so d.clock d.may_leave d.held d.pending old c.finish.new.disk _ _ _ _ (λ ok. refl)
    (λ images l. leaves_before (d.pending old) c.args.self.now c.prepare.new.self q images same (leaves_step (d.pending old) c.prepare.new.self q (decided_of c.in_ok-prepared.prepared) images decided l))
    (c.in_ok-finish.ensures.writes told)
