-- What a script keeps while events are appended.
use Rattle.std.proofs.Common.{◌≡◌, ℕ, ◌+◌, ◌≤◌, List, [], ◌∷◌, ◌++◌, sym, ◌∙◌, subst, arith}
use Rattle.scripts.specs.Lawful.{MayFollow}
use Rattle.scripts.specs.Notes.{Noted}
use Rattle.scripts.specs.Weights.{weight_of, weight_of_all, IsWeighed}
use Rattle.scripts.specs.declared.script.ScriptEvent.{ScriptEvent}
use Rattle.scripts.proofs.LawfulLemmas.{lawful_push}

weight_push : (events : List ScriptEvent) (event : ScriptEvent) → weight_of_all (events ++ event ∷ []) ≡ weight_of_all events + weight_of event
weight_push [] event = omega arith
weight_push (e ∷ events) event = omega (arith, weight_push events event)

pub weighed_with_room : (events : List ScriptEvent) (weight : ℕ) (old new : Noted)
    → IsWeighed events weight old → new.noted ≡ old.noted → old.room ≤ new.room → IsWeighed events weight new
weighed_with_room events weight old new kept noted room = record {
  lawful = kept.lawful;
  weighed = kept.weighed;
  room = omega (arith, kept.room, room);
  fresh = noted ∙ kept.fresh;
}

pub weighed_push : (old new : List ScriptEvent) (event : ScriptEvent) (weight more : ℕ) (before notes : Noted)
    → IsWeighed old weight before → notes.noted ≡ before.noted → MayFollow old event → new ≡ old ++ event ∷ []
    → more ≡ weight + weight_of event → more ≤ notes.room → IsWeighed new more notes
weighed_push old new event weight more before notes kept noted may is sum room =
    subst (λ (es : List ScriptEvent). IsWeighed es more notes) (sym is) (record {
      lawful = lawful_push old event kept.lawful may;
      weighed = omega (arith, sum, kept.weighed, weight_push old event);
      room = room;
      fresh = noted ∙ kept.fresh;
    })
