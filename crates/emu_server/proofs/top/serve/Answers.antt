-- The end is right for the bytes that the source held.
use Rattle.std.proofs.Common.{rules, inl, inr, [], List, ℕ, refl, subst, arith}
use Rattle.std.proofs.KnownBytes.{Keeps-refl}
use Rattle.emu_server.proofs.ServingLemmas.{served_held}
use Rattle.emu_server.proofs.TopLemmas.{held, held-known}
use Rattle.emu_server.proofs.top.serve.Goals as goal
use Rattle.commands.specs.Texts.{texts_given}
use Rattle.emu_server.specs.Serving.{IsServedFrom}

pub returns-in-Ok-clause-ends : goal.returns-in-Ok-clause-ends
returns-in-Ok-clause-ends g c =
    let d = g.W.Disk in
    let o = texts_given c.args.flags.now in
    let from = c.args.world.now in
    let to = c.serve_bytes.new.world in
    let s = c.serve_bytes.result in
    let old = g.K.Sink.written c.args.out.now in
    let new = g.K.Sink.written c.serve_bytes.new.out in
    let served : IsServedFrom d.tells d.clock d.may_leave d.held d.pending d.beside c.in-Ok.bytes.items o from to s old new =
    subst (λ (b : List ℕ). IsServedFrom d.tells d.clock d.may_leave d.held d.pending d.beside b o from to s old new) c.as_slice.ensures.value c.serve_bytes.ensures.ends in (
      held (g.S.Source.left c.args.history.now) c.in-Ok.bytes.items,
      held-known _ _,
      inr (served_held d.tells d.clock d.may_leave d.held d.pending d.beside o from to s old new _ _ c.in-Ok.bytes.items c.in-Ok.ensures.bytes (λ short. c.in-Ok.ensures.end (omega arith)) served),
    )

pub returns-in-Err-Read-clause-ends : goal.returns-in-Err-Read-clause-ends
returns-in-Err-Read-clause-ends g c = (held (g.S.Source.left c.args.history.now) [], held-known _ _, inl (refl, search rules, c.end_with.ensures.written))

pub returns-in-Err-Memory-clause-ends : goal.returns-in-Err-Memory-clause-ends
returns-in-Err-Memory-clause-ends g c = (held (g.S.Source.left c.args.history.now) [], held-known _ _, inr (inl (refl, inl (refl, Keeps-refl _))))
