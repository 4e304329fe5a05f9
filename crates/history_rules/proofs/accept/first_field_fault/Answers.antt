use Rattle.std.proofs.Common.{ℕ, ◌≡◌, List, sym, subst, ap, ◌∙◌}
use Rattle.schemas.specs.Dated.{Dated}
use Rattle.gate_spec.specs.declared.entry.GateEntry.{GateEntry}
use Rattle.lifecycle.specs.declared.entry.ApiEntry.{ApiEntry}
use Rattle.fields.specs.declared.field.Field.{Field}
use Rattle.fields.specs.declared.field.Spell.{Spell}
use Rattle.schemas.specs.Rules.{field_checks, FindsFault}
use Rattle.std.specs.Prelude.{IfOk}
use Rattle.field_rules.specs.Lists.{lists}
use Rattle.history_rules.proofs.accept.first_field_fault.Goals as goal

pub returns : goal.returns
returns c =
    let g : c.items.result.now ≡ c.args.h.now.gates = c.items.ensures ∙ ap (λ (d : Dated). d.gates) c.h.view_is in
    let a : c.items-2.result.now ≡ c.args.h.now.apis = c.items-2.ensures ∙ ap (λ (d : Dated). d.apis) c.h.view_is in
    let f : c.items-3.result.now ≡ c.args.h.now.fields = c.items-3.ensures ∙ ap (λ (d : Dated). d.fields) c.h.view_is in
    let s : c.items-4.result.now ≡ c.args.h.now.spells = c.items-4.ensures ∙ ap (λ (d : Dated). d.spells) c.h.view_is in
    subst (λ (n : ℕ). IfOk c.first_broken.result (FindsFault (lists n c.args.h.now.gates c.args.h.now.apis c.args.h.now.fields c.args.h.now.spells) field_checks)) (sym c.requires)
    (subst (λ (l : List GateEntry). IfOk c.first_broken.result (FindsFault (lists c.args.first l c.args.h.now.apis c.args.h.now.fields c.args.h.now.spells) field_checks)) g
    (subst (λ (l : List ApiEntry). IfOk c.first_broken.result (FindsFault (lists c.args.first c.items.result.now l c.args.h.now.fields c.args.h.now.spells) field_checks)) a
    (subst (λ (l : List Field). IfOk c.first_broken.result (FindsFault (lists c.args.first c.items.result.now c.items-2.result.now l c.args.h.now.spells) field_checks)) f
    (subst (λ (l : List Spell). IfOk c.first_broken.result (FindsFault (lists c.args.first c.items.result.now c.items-2.result.now c.items-3.result.now l) field_checks)) s c.first_broken.ensures))))
