use Rattle.std.proofs.Common.{List, [], ◌∷◌, ◌++◌, take, sym, ◌∙◌, ap, subst, add-one}
use Rattle.scripts.specs.Lawful.{MayFollow}
use Rattle.scripts.specs.declared.script.ScriptEvent.{ScriptEvent}
use Rattle.scripts.specs.declared.script.ScriptEvent.TheVariants.{Close}
use Rattle.workload.specs.Groups.{closes}
use Rattle.workload.proofs.EventLemmas.{may_close, close_more}
use Rattle.workload.proofs.script.close.Goals as goal

pub push-requires : goal.push-requires
push-requires c =
    subst (λ (es : List ScriptEvent). MayFollow es (Close c.loop-c.c)) (sym c.loop-c.invariant) (may_close c.args.script.now c.loop-c.c c.requires c.loop-c-test.true)

pub loop-c-preserved : goal.loop-c-preserved
loop-c-preserved c =
    c.in_ok-push.ensures.ok ∙ ap (λ (es : List ScriptEvent). es ++ Close c.loop-c.c ∷ []) c.loop-c.invariant
    ∙ sym (close_more c.args.script.now c.loop-c.c c.loop-c-test.true)
    ∙ ap (λ n. c.args.script.now ++ take n closes) (sym (add-one c.loop-c.c))
