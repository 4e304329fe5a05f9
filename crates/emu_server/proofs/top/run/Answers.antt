use Rattle.std.proofs.Common.{inl, inr, [], List, ℕ, refl}
use Rattle.std.proofs.KnownBytes.{Keeps-refl}
use Rattle.emu_server.proofs.CompleteLemmas.{complete, kept_bytes}
use Rattle.emu_server.proofs.TopLemmas.{held, held-known}
use Rattle.emu_server.proofs.top.run.Goals as goal
use Rattle.commands.specs.Texts.{texts_given}
use Rattle.emu_server.specs.Serving.{AsksToServe}
use Rattle.served_history.specs.Releases.{FlagTexts}
use Rattle.words.specs.Settings.{texts_of}

pub returns-in-Err-clause-ends : goal.returns-in-Err-clause-ends
returns-in-Err-clause-ends g c = (held (g.S.Source.left c.args.history.now) [], held-known _ _, inl (refl, refl, Keeps-refl _))

pub returns-in-Ok-Some-clause-complete : goal.returns-in-Ok-Some-clause-complete
returns-in-Ok-Some-clause-complete g c = λ told bytes left can calm.
    let d = g.W.Disk in
    let words = texts_of c.args.words.now in
    let o = texts_given c.in-Ok-Some.flags in
    let e = c.serve.ensures.ends in
    let asks : AsksToServe words o = rw c.in-Ok-Some.field-0-is at c.in-Ok-Some.ensures.some in
    complete d.tells d.clock d.may_leave d.held d.pending d.beside _ _ _ _ _ told
    (λ is. calm.sink (c.serve.ensures.write_fault is)) (λ is. calm.disk (c.serve.ensures.disk_fault is)) (λ is. calm.front (c.serve.ensures.front_fault is)) calm.few
    words bytes can _ calm.source o e.0 c.words_have_one_command.ensures asks (kept_bytes _ bytes e.0 left e.1) e.2

pub returns-in-Ok-None-clause-complete : goal.returns-in-Ok-None-clause-complete
returns-in-Ok-None-clause-complete g c = λ told bytes left can calm.
    let none : (t : FlagTexts) → ¬ AsksToServe (texts_of c.args.words.now) t = rw c.in-Ok-None.field-0-is at c.in-Ok-None.ensures.none in
    absurd (none can.o can.asks)

pub returns-in-Err-clause-complete : goal.returns-in-Err-clause-complete
returns-in-Err-clause-complete g c = λ told bytes left can calm. inr refl
