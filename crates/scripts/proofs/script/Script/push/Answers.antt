use Rattle.std.proofs.Common.{sym, subst, List, arith}
use Rattle.scripts.specs.Lawful.{MayFollow}
use Rattle.scripts.specs.declared.script.ScriptEvent.{ScriptEvent}
use Rattle.scripts.proofs.WeightLemmas.{weighed_push}
use Rattle.scripts.proofs.script.Script.push.Goals as goal

pub invariant_of-self-2 : goal.invariant_of-self-2
invariant_of-self-2 c =
    let may = subst (λ (es : List ScriptEvent). MayFollow es c.args.event) (sym c.self.view_is) c.requires in
    weighed_push _ _ c.args.event _ _ _ _ c.self.invariant c.in_ok-make_room.ensures.kept may c.in_ok-push.ensures.ok (omega (arith, c.in_ok-weight.ensures, c.weight.ensures)) c.in_ok-make_room.ensures.ok
