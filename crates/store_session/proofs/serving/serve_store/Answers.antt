use Rattle.std.proofs.Common.{ap, sym, subst}
use Rattle.std.proofs.lemmas.Result.{err_from_is_err_and}
use Rattle.object_store.specs.Stores.{StoreRecord}
use Rattle.object_store.specs.Records.{RecoversTo}
use Rattle.object_journal.specs.Standing.{chosen}
use Rattle.plain_machine.specs.declared.machine.Machine.{Machine}
use Rattle.release_view.specs.Views.{Viewed}
use Rattle.disk.specs.Beside.{Beside}
use Rattle.session_ends.proofs.DrawnLemmas.{drawn_none}
use Rattle.session_ends.specs.Drawn.{HasDrawn}
use Rattle.session_step.specs.Taken.{server_of}
use Rattle.store_session.proofs.OpeningLemmas.{start_end}
use Rattle.store_session.proofs.SessionLemmas.{end_of}
use Rattle.store_session.proofs.serving.serve_store.Goals as goal
use Rattle.store_session.specs.Ends.{IsStoreEnd}

pub returns-in_err-service-clause-ends : goal.returns-in_err-service-clause-ends
returns-in_err-service-clause-ends g c told =
    let d = g.W.Disk in
    let s = c.in_ok-store.store in
    let e = c.in_ok-store.ensures in
    let p = err_from_is_err_and c.from_residual-in_err-service.result c.from_residual-in_err-service.ensures.1 in
    rw (p.1, p.2) (start_end d.clock d.may_leave d.held d.pending d.beside c.args.world.now c.opened.new.world (record { view = c.args.view; release = c.args.release; back = c.args.back.minor }) c.args.back s.items s.journal.revision _
    (e.recovered told) (e.content told) (e.opening told) c.in_err-service.ensures.ends)

pub returns-clause-ends : goal.returns-clause-ends
returns-clause-ends g c told =
    let d = g.W.Disk in
    let old = c.args.world.now in
    let mid = c.opened.new.world in
    let service = c.in_ok-service.service in
    let made = c.in_ok-service.ensures in
    let e = c.in_ok-store.ensures in
    let k = c.served.ensures in
    let is = c.service_is_kept.ensures in
    let recovered = subst (λ (s : StoreRecord). RecoversTo (d.held old chosen) s.items s.journal.revision) (sym made.store) (e.recovered told) in
    let ends = end_of (server_of service) is.serves.stand is.kept d.clock d.may_leave d.held d.pending d.beside old mid c.served.new.world
    recovered (e.moments told) (e.begun told) (λ images now. g.met.W.Disk.images_now old images told now) (server_of c.served.new.service) c.served.result (k.serves told) k.revision in
    subst (λ (p : Machine × Viewed). IsStoreEnd d.clock d.may_leave d.held d.pending d.beside p.0 p.1 old c.served.new.world c.served.result) (λ i. (made.machine i, made.back i)) ends

pub returns-in_err-store-clause-drawn : goal.returns-in_err-store-clause-drawn
returns-in_err-store-clause-drawn g c told =
    let d = g.W.Disk in
    let same = c.opened.ensures.same in
    drawn_none 4096 (d.beside c.args.world.now) (d.beside c.opened.new.world) (ap (λ (b : Beside). b.taken) same) (ap (λ (b : Beside). b.coming) same)

pub returns-in_err-service-clause-drawn : goal.returns-in_err-service-clause-drawn
returns-in_err-service-clause-drawn g c told =
    let d = g.W.Disk in
    let same = c.opened.ensures.same in
    drawn_none 4096 (d.beside c.args.world.now) (d.beside c.opened.new.world) (ap (λ (b : Beside). b.taken) same) (ap (λ (b : Beside). b.coming) same)

pub returns-clause-drawn : goal.returns-clause-drawn
returns-clause-drawn g c told =
    let d = g.W.Disk in
    subst (λ (b : Beside). HasDrawn 4096 b (d.beside c.served.new.world)) c.opened.ensures.same (c.served.ensures.drawn told)
