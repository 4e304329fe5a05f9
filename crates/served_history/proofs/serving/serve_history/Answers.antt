use Rattle.std.proofs.Common.{ℕ, subst, sym}
use Rattle.std.proofs.lemmas.Result.{err_from_is_err_and}
use Rattle.plain_machine.specs.declared.machine.Machine.{Machine}
use Rattle.served_history.proofs.EndLemmas.{store_end}
use Rattle.served_history.specs.Releases.{IsFor, flag_texts}
use Rattle.served_history.proofs.serving.serve_history.Goals as goal

pub returns-in_err-served-clause-ends : goal.returns-in_err-served-clause-ends
returns-in_err-served-clause-ends g c =
    let d = g.W.Disk in
    let h = c.args.accepted.now in
    let o = flag_texts c.args.texts in
    let views = c.in_ok-views.views in
    let server = subst (λ (n : ℕ). IsFor h o (record { view = views.view; release = n; back = views.back.minor }) views.back) (sym c.last-release.ensures.value) c.in_ok-views.ensures.server in
    let machine : Machine = record { view = views.view; release = c.last-release.result; back = views.back.minor } in
    let store = c.in_err-served.field-0.0 in
    let p = err_from_is_err_and c.from_residual-in_err-served.result c.from_residual-in_err-served.ensures.1 in
    rw (p.1, p.2) (store_end d.tells d.clock d.may_leave d.held d.pending d.beside h o c.args.world.now c.serve_store.new.world store (machine, views.back, server, c.in_err-served.ensures.ends))
