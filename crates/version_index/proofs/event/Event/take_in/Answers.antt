use Rattle.std.proofs.Common.{sym, ◌∙◌, List, ap, refl, Result, Ok, Err, OnOk}
use Rattle.std.specs.Option.{is_some}
use Rattle.lifecycle.specs.declared.entry.ApiEntry.{ApiEntry as TheEntry}
use Rattle.version_index.specs.Events.{is_event}
use Rattle.version_index.proofs.StepLemmas.{other_kind, seen, put_in}
use Rattle.version_index.proofs.event.Event.take_in.Goals as goal
use Rattle.version_index.proofs.event.Event.take_in.Goals.{then-not-is_of-via-then-not-is_of, then-not-is_of-via-else-not-is_of+then-is_some}

OnOk-map : {T E : Type 0} (r : Result T E) (P Q : Type 0) → (P → Q) → OnOk r P → OnOk r Q
OnOk-map (Ok x) P Q f h = f h
OnOk-map (Err e) P Q f h = h

pub returns-then-not-is_of : goal.returns-then-not-is_of
returns-then-not-is_of c = λ (tables : List TheEntry) h.
    elim c.then-not-is_of.branch [
      | then-not-is_of-via-then-not-is_of w ↦ other_kind (is_event c.args.self) tables c.args.entry.now c.args.map.now (sym c.is_of.ensures ∙ w.if-not-is_of.true) h
      | then-not-is_of-via-else-not-is_of+then-is_some w ↦
          seen (is_event c.args.self) tables c.args.entry.now c.args.map.now _ _ _ c.bytes-group.ensures c.bytes-version.ensures c.bytes-resource.ensures
          (ap is_some (sym w.value_of.ensures) ∙ sym w.is_some.ensures ∙ w.if-is_some.true) h
    ]

pub returns : goal.returns
returns c =
    OnOk-map c.put.result _ _
    (λ puts (tables : List TheEntry) h.
    put_in (is_event c.args.self) tables c.args.entry.now c.args.map.now c.put.new.map c.args.entry _ _ _ c.bytes-group.ensures c.bytes-version.ensures c.bytes-resource.ensures refl (sym c.is_of.ensures ∙ c.if-not-is_of.false)
    (ap is_some (sym c.value_of.ensures) ∙ sym c.is_some.ensures ∙ c.if-is_some.false) puts h)
    c.put.ensures.ok
