use Rattle.std.proofs.Common.{◌≡◌, ◌∙◌, ◌∷◌, true, List, ℕ, length, drop, sym, ap, subst}
use Rattle.disk.specs.Beside.{End}
use Rattle.scripts.specs.declared.script.ScriptEvent.{ScriptEvent}
use Rattle.world.specs.Events.{front_event}
use Rattle.world.specs.Tapes.{Told, IsKept, TakesNext, taken_of, coming_of}
use Rattle.world.proofs.TapeLemmas.{kept_at_end, takes_at_end, kept_at_event, takes_at_event}
use Rattle.world.proofs.tape.Tape.next.Goals as goal

pub invariant_of-self : goal.invariant_of-self
invariant_of-self c =
    let t = c.self.inside in
    let none : length (drop t.place.index t.events) ≡ 0 = sym (ap length (c.split_at.ensures.back ∙ ap (λ (es : List ScriptEvent). drop t.place.index es) c.items.ensures)) ∙ c.in_default.ensures.cases in
    kept_at_end t.events t.notes.noted t.place (length c.args.into.now) t.notes.room t.ended none c.requires c.self.invariant

pub returns-in_default-clause-next : goal.returns-in_default-clause-next
returns-in_default-clause-next c =
    let t = c.self.inside in
    let none : length (drop t.place.index t.events) ≡ 0 = sym (ap length (c.split_at.ensures.back ∙ ap (λ (es : List ScriptEvent). drop t.place.index es) c.items.ensures)) ∙ c.in_default.ensures.cases in
    subst (λ (old : Told). TakesNext (length c.args.into.now) End old
    (record { opened = t.place.opened; taken = taken_of t.events t.notes.noted true; coming = coming_of t.events t.notes.noted true }))
    c.self.view_is
    (takes_at_end t.events t.notes.noted t.place (length c.args.into.now) t.notes.room t.ended t.place.opened t.place.opened none c.requires c.self.invariant)

pub invariant_of-self-2 : goal.invariant_of-self-2
invariant_of-self-2 c =
    let t = c.self.inside in
    let step = c.take_event-step.result in
    let e : drop t.place.index t.events ≡ c.in-Some.event.now ∷ c.in-Some.field-0-1.now = sym (c.split_at.ensures.back ∙ ap (λ (es : List ScriptEvent). drop t.place.index es) c.items.ensures) ∙ c.in-Some.ensures.cases.0 in
    subst (λ (l : List ℕ). IsKept t.events l c.note.new.self.room step.place t.ended) (sym c.note.ensures.noted)
    (kept_at_event t.events t.notes.noted t.place (length c.args.into.now) t.notes.room c.take_event-step.new.into c.in-Some.event.now c.in-Some.field-0-1.now step
    e c.requires c.take_event-step.ensures t.ended c.note.new.self.room c.note.ensures.room c.self.invariant)

pub returns-clause-next : goal.returns-clause-next
returns-clause-next c =
    let t = c.self.inside in
    let step = c.take_event-step.result in
    let e : drop t.place.index t.events ≡ c.in-Some.event.now ∷ c.in-Some.field-0-1.now = sym (c.split_at.ensures.back ∙ ap (λ (es : List ScriptEvent). drop t.place.index es) c.items.ensures) ∙ c.in-Some.ensures.cases.0 in
    subst (λ (old : Told). TakesNext (length c.args.into.now) (front_event step.event c.take_event-step.new.into) old
    (record { opened = step.place.opened; taken = taken_of t.events c.note.new.self.noted t.ended; coming = coming_of t.events c.note.new.self.noted t.ended }))
    c.self.view_is
    (subst (λ (l : List ℕ). TakesNext (length c.args.into.now) (front_event step.event c.take_event-step.new.into)
    (record { opened = t.place.opened; taken = taken_of t.events t.notes.noted t.ended; coming = coming_of t.events t.notes.noted t.ended })
    (record { opened = step.place.opened; taken = taken_of t.events l t.ended; coming = coming_of t.events l t.ended }))
    (sym c.note.ensures.noted)
    (takes_at_event t.events t.notes.noted t.place (length c.args.into.now) t.notes.room c.take_event-step.new.into c.in-Some.event.now c.in-Some.field-0-1.now step
    e c.requires c.take_event-step.ensures t.ended c.note.new.self.room c.note.ensures.room c.self.invariant))
