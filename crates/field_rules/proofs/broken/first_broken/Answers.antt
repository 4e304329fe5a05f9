use Rattle.std.proofs.Common.{ℕ, Option, IfOk, sym, subst}
use Rattle.schemas.specs.Places.{Each, Breaks, IsLeast, FindsFirst}
use Rattle.schemas.specs.Rules.{first_of, field_checks, FindsFault}
use Rattle.schemas.specs.FieldRules.{BelongsToResource, IsRequiredFairly, HasKnownGate, IsSpelledThroughout}
use Rattle.field_rules.specs.Lists.{lists}
use Rattle.schemas.specs.Dated.{Dated}
use Rattle.schemas.specs.SpellRules.{SpellsPairOnce, HasOwnPath, FitsField}
use Rattle.field_rules.proofs.FaultLemmas.{belongs_fault, required_fault, gated_fault, spelled_fault, paired_fault, own_path_fault, fits_fault, no_fault}
use Rattle.field_rules.proofs.broken.first_broken.Goals as goal

pub returns-in-Ok-Some : goal.returns-in-Ok-Some
returns-in-Ok-Some c = subst (λ r. IfOk r (λ found. FindsFault (lists c.args.first c.args.gates.now c.args.apis.now c.args.fields.now c.args.spells.now) field_checks found)) (sym c.broken_by_field.ensures) (belongs_fault (lists c.args.first c.args.gates.now c.args.apis.now c.args.fields.now c.args.spells.now) c.in-Ok-Some.number (subst (λ (h : Dated). IsLeast (Breaks (BelongsToResource (first_of h) h.apis) c.args.fields.now) c.in-Ok-Some.number) c.in_ok-index.ensures (subst (λ (o : Option ℕ). FindsFirst (BelongsToResource (first_of c.in_ok-index.index) c.in_ok-index.index.apis) c.args.fields.now o) c.in-Ok-Some.field-0-is c.in-Ok-Some.ensures)))

pub returns-in-Some : goal.returns-in-Some
returns-in-Some c = subst (λ r. IfOk r (λ found. FindsFault (lists c.args.first c.args.gates.now c.args.apis.now c.args.fields.now c.args.spells.now) field_checks found)) (sym c.broken_by_field-in-Some.ensures) (required_fault (lists c.args.first c.args.gates.now c.args.apis.now c.args.fields.now c.args.spells.now) c.in-Some.number (subst (λ (h : Dated). Each (BelongsToResource (first_of h) h.apis) c.args.fields.now) c.in_ok-index.ensures (subst (λ (o : Option ℕ). FindsFirst (BelongsToResource (first_of c.in_ok-index.index) c.in_ok-index.index.apis) c.args.fields.now o) c.in-Ok-None.field-0-is c.in-Ok-None.ensures)) (subst (λ (h : Dated). IsLeast (Breaks (IsRequiredFairly h.apis) c.args.fields.now) c.in-Some.number) c.in_ok-index.ensures c.in-Some.ensures))

pub returns-in-Some-first_with_unknown_gate : goal.returns-in-Some-first_with_unknown_gate
returns-in-Some-first_with_unknown_gate c = subst (λ r. IfOk r (λ found. FindsFault (lists c.args.first c.args.gates.now c.args.apis.now c.args.fields.now c.args.spells.now) field_checks found)) (sym c.broken_by_field-in-Some-first_with_unknown_gate.ensures) (gated_fault (lists c.args.first c.args.gates.now c.args.apis.now c.args.fields.now c.args.spells.now) c.in-Some-first_with_unknown_gate.number (subst (λ (h : Dated). Each (BelongsToResource (first_of h) h.apis) c.args.fields.now) c.in_ok-index.ensures (subst (λ (o : Option ℕ). FindsFirst (BelongsToResource (first_of c.in_ok-index.index) c.in_ok-index.index.apis) c.args.fields.now o) c.in-Ok-None.field-0-is c.in-Ok-None.ensures)) (subst (λ (h : Dated). Each (IsRequiredFairly h.apis) c.args.fields.now) c.in_ok-index.ensures c.in_default.ensures) (subst (λ (h : Dated). IsLeast (Breaks (HasKnownGate (first_of h) h.gates) c.args.fields.now) c.in-Some-first_with_unknown_gate.number) c.in_ok-index.ensures c.in-Some-first_with_unknown_gate.ensures))

pub returns-in-Some-first_unspelled : goal.returns-in-Some-first_unspelled
returns-in-Some-first_unspelled c = subst (λ r. IfOk r (λ found. FindsFault (lists c.args.first c.args.gates.now c.args.apis.now c.args.fields.now c.args.spells.now) field_checks found)) (sym c.broken_by_field-in-Some-first_unspelled.ensures) (spelled_fault (lists c.args.first c.args.gates.now c.args.apis.now c.args.fields.now c.args.spells.now) c.in-Some-first_unspelled.number (subst (λ (h : Dated). Each (BelongsToResource (first_of h) h.apis) c.args.fields.now) c.in_ok-index.ensures (subst (λ (o : Option ℕ). FindsFirst (BelongsToResource (first_of c.in_ok-index.index) c.in_ok-index.index.apis) c.args.fields.now o) c.in-Ok-None.field-0-is c.in-Ok-None.ensures)) (subst (λ (h : Dated). Each (IsRequiredFairly h.apis) c.args.fields.now) c.in_ok-index.ensures c.in_default.ensures) (subst (λ (h : Dated). Each (HasKnownGate (first_of h) h.gates) c.args.fields.now) c.in_ok-index.ensures c.in_default-first_with_unknown_gate.ensures) (subst (λ (h : Dated). IsLeast (Breaks (IsSpelledThroughout h.apis h.spells) c.args.fields.now) c.in-Some-first_unspelled.number) c.in_ok-index.ensures c.in-Some-first_unspelled.ensures))

pub returns-in-Ok-Some-first_unpaired : goal.returns-in-Ok-Some-first_unpaired
returns-in-Ok-Some-first_unpaired c = subst (λ r. IfOk r (λ found. FindsFault (lists c.args.first c.args.gates.now c.args.apis.now c.args.fields.now c.args.spells.now) field_checks found)) (sym c.broken_by_spell.ensures) (paired_fault (lists c.args.first c.args.gates.now c.args.apis.now c.args.fields.now c.args.spells.now) c.in-Ok-Some-first_unpaired.number (subst (λ (h : Dated). Each (BelongsToResource (first_of h) h.apis) c.args.fields.now) c.in_ok-index.ensures (subst (λ (o : Option ℕ). FindsFirst (BelongsToResource (first_of c.in_ok-index.index) c.in_ok-index.index.apis) c.args.fields.now o) c.in-Ok-None.field-0-is c.in-Ok-None.ensures)) (subst (λ (h : Dated). Each (IsRequiredFairly h.apis) c.args.fields.now) c.in_ok-index.ensures c.in_default.ensures) (subst (λ (h : Dated). Each (HasKnownGate (first_of h) h.gates) c.args.fields.now) c.in_ok-index.ensures c.in_default-first_with_unknown_gate.ensures) (subst (λ (h : Dated). Each (IsSpelledThroughout h.apis h.spells) c.args.fields.now) c.in_ok-index.ensures c.in_default-first_unspelled.ensures) (subst (λ (h : Dated). IsLeast (Breaks (SpellsPairOnce h.apis h.fields) c.args.spells.now) c.in-Ok-Some-first_unpaired.number) c.in_ok-index.ensures (subst (λ (o : Option ℕ). FindsFirst (SpellsPairOnce c.in_ok-index.index.apis c.in_ok-index.index.fields) c.args.spells.now o) c.in-Ok-Some-first_unpaired.field-0-is c.in-Ok-Some-first_unpaired.ensures)))

pub returns-in-Ok-Some-first_met_path : goal.returns-in-Ok-Some-first_met_path
returns-in-Ok-Some-first_met_path c = subst (λ r. IfOk r (λ found. FindsFault (lists c.args.first c.args.gates.now c.args.apis.now c.args.fields.now c.args.spells.now) field_checks found)) (sym c.broken_by_spell-in-Ok-Some-first_met_path.ensures) (own_path_fault (lists c.args.first c.args.gates.now c.args.apis.now c.args.fields.now c.args.spells.now) c.in-Ok-Some-first_met_path.number (subst (λ (h : Dated). Each (BelongsToResource (first_of h) h.apis) c.args.fields.now) c.in_ok-index.ensures (subst (λ (o : Option ℕ). FindsFirst (BelongsToResource (first_of c.in_ok-index.index) c.in_ok-index.index.apis) c.args.fields.now o) c.in-Ok-None.field-0-is c.in-Ok-None.ensures)) (subst (λ (h : Dated). Each (IsRequiredFairly h.apis) c.args.fields.now) c.in_ok-index.ensures c.in_default.ensures) (subst (λ (h : Dated). Each (HasKnownGate (first_of h) h.gates) c.args.fields.now) c.in_ok-index.ensures c.in_default-first_with_unknown_gate.ensures) (subst (λ (h : Dated). Each (IsSpelledThroughout h.apis h.spells) c.args.fields.now) c.in_ok-index.ensures c.in_default-first_unspelled.ensures) (subst (λ (h : Dated). Each (SpellsPairOnce h.apis h.fields) c.args.spells.now) c.in_ok-index.ensures (subst (λ (o : Option ℕ). FindsFirst (SpellsPairOnce c.in_ok-index.index.apis c.in_ok-index.index.fields) c.args.spells.now o) c.in-Ok-None-first_unpaired.field-0-is c.in-Ok-None-first_unpaired.ensures)) (subst (λ (h : Dated). IsLeast (Breaks (HasOwnPath) c.args.spells.now) c.in-Ok-Some-first_met_path.number) c.in_ok-index.ensures (subst (λ (o : Option ℕ). FindsFirst (HasOwnPath) c.args.spells.now o) c.in-Ok-Some-first_met_path.field-0-is c.in-Ok-Some-first_met_path.ensures)))

pub returns-in-Some-first_unfit : goal.returns-in-Some-first_unfit
returns-in-Some-first_unfit c = subst (λ r. IfOk r (λ found. FindsFault (lists c.args.first c.args.gates.now c.args.apis.now c.args.fields.now c.args.spells.now) field_checks found)) (sym c.broken_by_spell-in-Some-first_unfit.ensures) (fits_fault (lists c.args.first c.args.gates.now c.args.apis.now c.args.fields.now c.args.spells.now) c.in-Some-first_unfit.number (subst (λ (h : Dated). Each (BelongsToResource (first_of h) h.apis) c.args.fields.now) c.in_ok-index.ensures (subst (λ (o : Option ℕ). FindsFirst (BelongsToResource (first_of c.in_ok-index.index) c.in_ok-index.index.apis) c.args.fields.now o) c.in-Ok-None.field-0-is c.in-Ok-None.ensures)) (subst (λ (h : Dated). Each (IsRequiredFairly h.apis) c.args.fields.now) c.in_ok-index.ensures c.in_default.ensures) (subst (λ (h : Dated). Each (HasKnownGate (first_of h) h.gates) c.args.fields.now) c.in_ok-index.ensures c.in_default-first_with_unknown_gate.ensures) (subst (λ (h : Dated). Each (IsSpelledThroughout h.apis h.spells) c.args.fields.now) c.in_ok-index.ensures c.in_default-first_unspelled.ensures) (subst (λ (h : Dated). Each (SpellsPairOnce h.apis h.fields) c.args.spells.now) c.in_ok-index.ensures (subst (λ (o : Option ℕ). FindsFirst (SpellsPairOnce c.in_ok-index.index.apis c.in_ok-index.index.fields) c.args.spells.now o) c.in-Ok-None-first_unpaired.field-0-is c.in-Ok-None-first_unpaired.ensures)) (subst (λ (h : Dated). Each (HasOwnPath) c.args.spells.now) c.in_ok-index.ensures (subst (λ (o : Option ℕ). FindsFirst (HasOwnPath) c.args.spells.now o) c.in-Ok-None-first_met_path.field-0-is c.in-Ok-None-first_met_path.ensures)) (subst (λ (h : Dated). IsLeast (Breaks (FitsField h.fields) c.args.spells.now) c.in-Some-first_unfit.number) c.in_ok-index.ensures c.in-Some-first_unfit.ensures))

pub returns : goal.returns
returns c = no_fault (lists c.args.first c.args.gates.now c.args.apis.now c.args.fields.now c.args.spells.now)
    (subst (λ (h : Dated). Each (BelongsToResource (first_of h) h.apis) c.args.fields.now) c.in_ok-index.ensures (subst (λ (o : Option ℕ). FindsFirst (BelongsToResource (first_of c.in_ok-index.index) c.in_ok-index.index.apis) c.args.fields.now o) c.in-Ok-None.field-0-is c.in-Ok-None.ensures))
    (subst (λ (h : Dated). Each (IsRequiredFairly h.apis) c.args.fields.now) c.in_ok-index.ensures c.in_default.ensures)
    (subst (λ (h : Dated). Each (HasKnownGate (first_of h) h.gates) c.args.fields.now) c.in_ok-index.ensures c.in_default-first_with_unknown_gate.ensures)
    (subst (λ (h : Dated). Each (IsSpelledThroughout h.apis h.spells) c.args.fields.now) c.in_ok-index.ensures c.in_default-first_unspelled.ensures)
    (subst (λ (h : Dated). Each (SpellsPairOnce h.apis h.fields) c.args.spells.now) c.in_ok-index.ensures (subst (λ (o : Option ℕ). FindsFirst (SpellsPairOnce c.in_ok-index.index.apis c.in_ok-index.index.fields) c.args.spells.now o) c.in-Ok-None-first_unpaired.field-0-is c.in-Ok-None-first_unpaired.ensures))
    (subst (λ (h : Dated). Each (HasOwnPath) c.args.spells.now) c.in_ok-index.ensures (subst (λ (o : Option ℕ). FindsFirst (HasOwnPath) c.args.spells.now o) c.in-Ok-None-first_met_path.field-0-is c.in-Ok-None-first_met_path.ensures))
    (subst (λ (h : Dated). Each (FitsField h.fields) c.args.spells.now) c.in_ok-index.ensures c.in_default-first_unfit.ensures)
