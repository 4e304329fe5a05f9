use Rattle.std.proofs.Common.{◌≡◌, Some, None, refl, sym, subst, ap, ◌∙◌, inl, inr}
use Rattle.schemas.specs.Dated.{Dated}
use Rattle.gate_spec.specs.declared.entry.GateEntry.{GateEntry}
use Rattle.lifecycle.specs.declared.entry.ApiEntry.{ApiEntry}
use Rattle.fields.specs.declared.field.Field.{Field}
use Rattle.fields.specs.declared.field.Spell.{Spell}
use Rattle.schemas.specs.Rules.{IsGateBy, IsApiBy, IsFieldBy, last_of, date_checks, FindsFault}
use Rattle.schemas.proofs.PlaceLemmas.{unbroken}
use Rattle.history_rules.proofs.FaultLemmas.{late_of}
use Rattle.history_rules.proofs.accept.first_late_entry.Goals as goal

pub returns-in-Some : goal.returns-in-Some
returns-in-Some c =
    let gates : c.items.result.now ≡ c.args.h.now.gates = c.items.ensures ∙ ap (λ (d : Dated). d.gates) c.h.view_is in
    subst (FindsFault c.args.h.now date_checks) (sym c.broken.ensures) (inl (refl, refl, late_of (λ (x : GateEntry). x.since) c.args.last (last_of c.args.h.now) c.items.result.now c.args.h.now.gates (Some c.in-Some.index) (sym c.requires) gates c.in-Some.ensures))

pub returns-in-Some-first_late : goal.returns-in-Some-first_late
returns-in-Some-first_late c =
    let gates : c.items.result.now ≡ c.args.h.now.gates = c.items.ensures ∙ ap (λ (d : Dated). d.gates) c.h.view_is in
    let apis : c.items-2.result.now ≡ c.args.h.now.apis = c.items-2.ensures ∙ ap (λ (d : Dated). d.apis) c.h.view_is in
    subst (FindsFault c.args.h.now date_checks) (sym c.broken-in-Some-first_late.ensures) (inr (unbroken (IsGateBy (last_of c.args.h.now)) c.args.h.now.gates (late_of (λ (x : GateEntry). x.since) c.args.last (last_of c.args.h.now) c.items.result.now c.args.h.now.gates None (sym c.requires) gates c.in_default.ensures), inl (refl, refl, late_of (λ (x : ApiEntry). x.since) c.args.last (last_of c.args.h.now) c.items-2.result.now c.args.h.now.apis (Some c.in-Some-first_late.index) (sym c.requires) apis c.in-Some-first_late.ensures)))

pub returns-in-Some-first_late-2 : goal.returns-in-Some-first_late-2
returns-in-Some-first_late-2 c =
    let gates : c.items.result.now ≡ c.args.h.now.gates = c.items.ensures ∙ ap (λ (d : Dated). d.gates) c.h.view_is in
    let apis : c.items-2.result.now ≡ c.args.h.now.apis = c.items-2.ensures ∙ ap (λ (d : Dated). d.apis) c.h.view_is in
    let fields : c.items-3.result.now ≡ c.args.h.now.fields = c.items-3.ensures ∙ ap (λ (d : Dated). d.fields) c.h.view_is in
    subst (FindsFault c.args.h.now date_checks) (sym c.broken-in-Some-first_late-2.ensures) (inr (unbroken (IsGateBy (last_of c.args.h.now)) c.args.h.now.gates (late_of (λ (x : GateEntry). x.since) c.args.last (last_of c.args.h.now) c.items.result.now c.args.h.now.gates None (sym c.requires) gates c.in_default.ensures), inr (unbroken (IsApiBy (last_of c.args.h.now)) c.args.h.now.apis (late_of (λ (x : ApiEntry). x.since) c.args.last (last_of c.args.h.now) c.items-2.result.now c.args.h.now.apis None (sym c.requires) apis c.in_default-first_late.ensures), inl (refl, refl, late_of (λ (x : Field). x.since) c.args.last (last_of c.args.h.now) c.items-3.result.now c.args.h.now.fields (Some c.in-Some-first_late-2.index) (sym c.requires) fields c.in-Some-first_late-2.ensures))))

pub returns-in-Some-first_late-3 : goal.returns-in-Some-first_late-3
returns-in-Some-first_late-3 c =
    let gates : c.items.result.now ≡ c.args.h.now.gates = c.items.ensures ∙ ap (λ (d : Dated). d.gates) c.h.view_is in
    let apis : c.items-2.result.now ≡ c.args.h.now.apis = c.items-2.ensures ∙ ap (λ (d : Dated). d.apis) c.h.view_is in
    let fields : c.items-3.result.now ≡ c.args.h.now.fields = c.items-3.ensures ∙ ap (λ (d : Dated). d.fields) c.h.view_is in
    let spells : c.items-4.result.now ≡ c.args.h.now.spells = c.items-4.ensures ∙ ap (λ (d : Dated). d.spells) c.h.view_is in
    subst (FindsFault c.args.h.now date_checks) (sym c.broken-in-Some-first_late-3.ensures) (inr (unbroken (IsGateBy (last_of c.args.h.now)) c.args.h.now.gates (late_of (λ (x : GateEntry). x.since) c.args.last (last_of c.args.h.now) c.items.result.now c.args.h.now.gates None (sym c.requires) gates c.in_default.ensures), inr (unbroken (IsApiBy (last_of c.args.h.now)) c.args.h.now.apis (late_of (λ (x : ApiEntry). x.since) c.args.last (last_of c.args.h.now) c.items-2.result.now c.args.h.now.apis None (sym c.requires) apis c.in_default-first_late.ensures), inr (unbroken (IsFieldBy (last_of c.args.h.now)) c.args.h.now.fields (late_of (λ (x : Field). x.since) c.args.last (last_of c.args.h.now) c.items-3.result.now c.args.h.now.fields None (sym c.requires) fields c.in_default-first_late-2.ensures), inl (refl, refl, late_of (λ (x : Spell). x.since) c.args.last (last_of c.args.h.now) c.items-4.result.now c.args.h.now.spells (Some c.in-Some-first_late-3.index) (sym c.requires) spells c.in-Some-first_late-3.ensures)))))
