use Rattle.std.proofs.Common.{sym, subst, List}
use Rattle.scripts.specs.Lawful.{IsLawful}
use Rattle.scripts.specs.Weights.{weight_of_all}
use Rattle.scripts.specs.declared.script.ScriptEvent.{ScriptEvent}
use Rattle.std.proofs.Common.{◌≤◌}
use Rattle.world.proofs.ScriptLemmas.{kept_first}
use Rattle.world.proofs.tape.Tape.new.Goals as goal

pub invariant_of-result : goal.invariant_of-result
invariant_of-result c =
    let parts = c.into_parts-parts in
    kept_first parts.result.events parts.result.notes.noted parts.result.notes.room
    (subst (λ (es : List ScriptEvent). IsLawful es) (sym parts.ensures.events) parts.ensures.lawful)
    (subst (λ (es : List ScriptEvent). weight_of_all es ≤ parts.result.notes.room) (sym parts.ensures.events) parts.ensures.room)
    parts.ensures.fresh
