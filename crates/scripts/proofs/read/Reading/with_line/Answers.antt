use Rattle.std.proofs.Common.{List, sym, ◌∙◌, subst}
use Rattle.std.proofs.lemmas.Bool.{false≢true}
use Rattle.scripts.specs.Lawful.{MayFollow}
use Rattle.scripts.specs.declared.script.ScriptEvent.{ScriptEvent}
use Rattle.scripts.proofs.WritingLemmas.{some_holds, writes_once}
use Rattle.scripts.proofs.read.Reading.with_line.Goals as goal

pub returns-then-not-allow-clause-none : goal.returns-then-not-allow-clause-none
returns-then-not-allow-clause-none c = λ other writes may.
    let wrote = some_holds c.in_ok-event.field-0 c.in-Some.event _ c.in-Some.is c.in_ok-event.ensures.some in
    let same = writes_once c.args.line.now other c.in-Some.event writes wrote in
    let may_this = subst (λ (e : ScriptEvent). MayFollow c.args.self e) same may in
    let may_here = subst (λ (es : List ScriptEvent). MayFollow es c.in-Some.event) (sym c.self.view_is) may_this in
    let allowed = (c.allow.ensures c.self.inside.script c.self.invariant).1 may_here in
    false≢true (sym c.if-not-allow.true ∙ allowed)
