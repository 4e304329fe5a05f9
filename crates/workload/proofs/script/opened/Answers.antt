use Rattle.std.proofs.Common.{List, [], ◌∷◌, ◌++◌, take, sym, ◌∙◌, ap, add-one}
use Rattle.scripts.specs.declared.script.ScriptEvent.{ScriptEvent}
use Rattle.scripts.specs.declared.script.ScriptEvent.TheVariants.{Open}
use Rattle.workload.specs.Groups.{opens}
use Rattle.workload.proofs.EventLemmas.{open_more}
use Rattle.workload.proofs.script.opened.Goals as goal

pub loop-c-preserved : goal.loop-c-preserved
loop-c-preserved c =
    c.in_ok-push.ensures.ok ∙ ap (λ (es : List ScriptEvent). es ++ Open ∷ []) c.loop-c.invariant
    ∙ sym (open_more c.loop-c._c c.loop-c-test.true)
    ∙ ap (λ n. take n opens) (sym (add-one c.loop-c._c))
