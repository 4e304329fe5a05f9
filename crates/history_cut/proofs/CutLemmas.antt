-- A history that is cut keeps its shapes and its rules.
use Rattle.std.proofs.Common.{ℕ, ◌≡◌, ◌≤◌, List, [], ◌∷◌, ◌++◌, Option, Some, None, subst, sym, arith}
use Rattle.std.specs.Prelude.{nat_le, IsSomeAnd, unwrap_or}
use Rattle.std.specs.List.{AllByRecursion}
use Rattle.std.proofs.ByRecursion.{all_kept_by}
use Rattle.std.proofs.lemmas.Bool.{leb-true, le-leb}
use Rattle.fields.specs.declared.field.Field.{Field}
use Rattle.fields.specs.declared.field.Spell.{Spell}
use Rattle.gate_spec.specs.Gates.{cutoff as gates_by}
use Rattle.gate_spec.specs.declared.entry.GateEntry.{GateEntry}
use Rattle.gate_spec.proofs.CutLemmas as gate_cuts
use Rattle.lifecycle.specs.Tables.{cutoff as apis_by}
use Rattle.lifecycle.specs.declared.entry.ApiEntry.{ApiEntry}
use Rattle.lifecycle.proofs.CutLemmas as api_cuts
use Rattle.schemas.specs.Cutoff.{cutoff, fields_by, spells_by}
use Rattle.schemas.specs.Dated.{Dated, IsShaped}
use Rattle.schemas.specs.Rules.{Check, AllHold, IsAccepted, release_check, date_checks, gate_checks, api_checks, field_checks, checks, first_of, last_of}
use Rattle.schemas.specs.Shapes.{IsMinor, IsShapedGate, IsShapedApi, IsShapedField, IsShapedSpell}
use Rattle.schemas.proofs.LawLemmas.{gates_rise}
use Rattle.history_cut.specs.Laws.{IsAcceptedWhereCut, IsCutOnce, IsCutAgain}
use Rattle.history_cut.specs.Range.{IsWithin}
use Rattle.history_cut.proofs.GateCutLemmas as on_gates
use Rattle.history_cut.proofs.ApiCutLemmas as on_apis
use Rattle.history_cut.proofs.FieldCutLemmas as on_fields

-- ---- a cut of a cut

fields_within : (fields : List Field) (o e : ℕ) → e ≤ o → fields_by (fields_by fields o) e ≡ fields_by fields e
fields_within fields o e within =
    api_cuts.filter_narrower (λ x. nat_le x.since e) (λ x. nat_le x.since o) fields
    (λ x dated. let before : x.since ≤ e = leb-true x.since e dated in le-leb x.since o (omega arith))

spells_within : (spells : List Spell) (o e : ℕ) → e ≤ o → spells_by (spells_by spells o) e ≡ spells_by spells e
spells_within spells o e within =
    api_cuts.filter_narrower (λ x. nat_le x.since e) (λ x. nat_le x.since o) spells
    (λ x dated. let before : x.since ≤ e = leb-true x.since e dated in le-leb x.since o (omega arith))

pub cut_again : (h : Dated) (o e : ℕ) → IsCutAgain h o e
cut_again h o e within =
    let gates = gate_cuts.cutoff_within h.gates o e within in
    let apis = api_cuts.cutoff_within h.apis o e within in
    let fields = fields_within h.fields o e within in
    let spells = spells_within h.spells o e within in
    λ i. record { first = h.first; last = Some e; gates = gates i; apis = apis i; fields = fields i; spells = spells i }

pub cut_once : (h : Dated) (o : ℕ) → IsCutOnce h o
cut_once h o = cut_again h o o (omega arith)

-- ---- shapes

pub shaped_cut : (h : Dated) (o : ℕ) → IsMinor o → IsShaped h → IsShaped (cutoff h o)
shaped_cut h o minor shaped = record {
  first = shaped.first;
  last = minor;
  gates = all_kept_by (λ x. nat_le x.since o) IsShapedGate h.gates shaped.gates;
  apis = all_kept_by (λ x. nat_le x.since o) IsShapedApi h.apis shaped.apis;
  fields = all_kept_by (λ x. nat_le x.since o) IsShapedField h.fields shaped.fields;
  spells = all_kept_by (λ x. nat_le x.since o) IsShapedSpell h.spells shaped.spells;
}

-- the same, of lists that are known to be those of the cut
pub shaped_as : (h : Dated) (o : ℕ) (gates : List GateEntry) (apis : List ApiEntry) (fields : List Field) (spells : List Spell) → IsMinor o → IsShaped h
    → gates ≡ gates_by h.gates o → apis ≡ apis_by h.apis o → fields ≡ fields_by h.fields o → spells ≡ spells_by h.spells o
    → IsShaped (record { first = h.first; last = Some o; gates = gates; apis = apis; fields = fields; spells = spells })
shaped_as h o gates apis fields spells minor shaped g a f s =
    let cut = shaped_cut h o minor shaped in
    record {
      first = cut.first;
      last = cut.last;
      gates = subst (AllByRecursion IsShapedGate) (sym g) cut.gates;
      apis = subst (AllByRecursion IsShapedApi) (sym a) cut.apis;
      fields = subst (AllByRecursion IsShapedField) (sym f) cut.fields;
      spells = subst (AllByRecursion IsShapedSpell) (sym s) cut.spells;
    }

-- ---- rules

hold_both : (h : Dated) (xs ys : List Check) → AllHold h xs → AllHold h ys → AllHold h (xs ++ ys)
hold_both h [] ys some more = more
hold_both h (x ∷ xs) ys some more = (some.0, hold_both h xs ys some.1 more)

releases_cut : (first last : Option ℕ) (o : ℕ) → unwrap_or first 0 ≤ o → IsSomeAnd first (λ f. IsSomeAnd last (λ l. f ≤ l)) → IsSomeAnd first (λ f. IsSomeAnd (Some o) (λ l. f ≤ l))
releases_cut None last o from rule = rule
releases_cut (Some first) last o from rule = from

hold_front : (h : Dated) (xs ys : List Check) → AllHold h (xs ++ ys) → AllHold h xs
hold_front h [] ys all = tt
hold_front h (x ∷ xs) ys all = (all.0, hold_front h xs ys all.1)

hold_back : (h : Dated) (xs ys : List Check) → AllHold h (xs ++ ys) → AllHold h ys
hold_back h [] ys all = all
hold_back h (x ∷ xs) ys all = hold_back h xs ys all.1

module _ (h : Dated) (o : ℕ) (accepted : IsAccepted h) (within : IsWithin h o) where
  before_fields : AllHold h (release_check ∷ date_checks ++ gate_checks ++ api_checks)
  before_fields = hold_front h (release_check ∷ date_checks ++ gate_checks ++ api_checks) field_checks accepted.keeps

  before_apis : AllHold h (release_check ∷ date_checks ++ gate_checks)
  before_apis = hold_front h (release_check ∷ date_checks ++ gate_checks) api_checks before_fields

  of_dates : AllHold h (release_check ∷ date_checks)
  of_dates = hold_front h (release_check ∷ date_checks) gate_checks before_apis

  of_gates : AllHold h gate_checks
  of_gates = hold_back h (release_check ∷ date_checks) gate_checks before_apis

  of_apis : AllHold h api_checks
  of_apis = hold_back h (release_check ∷ date_checks ++ gate_checks) api_checks before_fields

  of_fields : AllHold h field_checks
  of_fields = hold_back h (release_check ∷ date_checks ++ gate_checks ++ api_checks) field_checks accepted.keeps

  dates_cut : AllHold (cutoff h o) (release_check ∷ date_checks)
  dates_cut =
      let fields = on_fields.fields_dated h.gates h.apis h.fields h.spells (first_of h) o within.from (last_of h) of_dates.1.1.1.0 in
      let spells = on_fields.spells_dated h.gates h.apis h.fields h.spells (first_of h) o within.from (last_of h) of_dates.1.1.1.1.0 in
      (releases_cut h.first h.last o within.from of_dates.0, (on_gates.gates_dated h.gates o (last_of h) of_dates.1.0, (on_apis.apis_dated h.apis o (last_of h) of_dates.1.1.0, (fields, (spells, tt)))))

  gates_cut : AllHold (cutoff h o) gate_checks
  gates_cut =
      let rise = gates_rise h accepted in
      (on_gates.gates_rise_cut h.gates o rise of_gates.0, (on_gates.stages_fit_cut h.gates o of_gates.1.0, (on_gates.removals_ripe_cut h.gates o rise of_gates.1.1.0, tt)))

  apis_cut : AllHold (cutoff h o) api_checks
  apis_cut =
      let order = of_apis.0 in
      let kinds = on_apis.kinds_cut h.apis o of_apis.1.0 in
      let fair = on_apis.deprecations_fair_cut h.apis o of_apis.1.1.0 in
      let plan = on_apis.plan_cut h.apis o (last_of h) within.to order of_apis.1.1.1.0 in
      let late = on_apis.forgettings_late_cut h.apis o order of_apis.1.1.1.1.0 in
      (on_apis.order_cut h.apis o order, (kinds, (fair, (plan, (late, tt)))))

  fields_cut : AllHold (cutoff h o) field_checks
  fields_cut =
      let belong = of_fields.0 in
      let once = of_fields.1.1.1.1.0 in
      let belongs = on_fields.fields_belong_cut h.gates h.apis h.fields h.spells (first_of h) o within.from belong in
      let required = on_fields.required_fairly_cut h.gates h.apis h.fields h.spells (first_of h) o within.from of_fields.1.0 in
      let guarded = on_fields.gates_known_cut h.gates h.apis h.fields h.spells (first_of h) o within.from of_fields.1.1.0 in
      let spelled = on_fields.spelled_throughout_cut h.gates h.apis h.fields h.spells (first_of h) o within.from of_apis.0 belong once of_fields.1.1.1.0 in
      let paired = on_fields.spelled_once_cut h.gates h.apis h.fields h.spells (first_of h) o within.from once in
      let paths = on_fields.own_paths_cut h.gates h.apis h.fields h.spells (first_of h) o within.from of_fields.1.1.1.1.1.0 in
      let types = on_fields.fields_fit_cut h.gates h.apis h.fields h.spells (first_of h) o within.from of_fields.1.1.1.1.1.1.0 in
      (belongs, (required, (guarded, (spelled, (paired, (paths, (types, tt)))))))

  rules_cut : AllHold (cutoff h o) checks
  rules_cut =
      hold_both (cutoff h o) (release_check ∷ date_checks ++ gate_checks ++ api_checks) field_checks
      (hold_both (cutoff h o) (release_check ∷ date_checks ++ gate_checks) api_checks (hold_both (cutoff h o) (release_check ∷ date_checks) gate_checks dates_cut gates_cut) apis_cut) fields_cut

-- a history that is accepted is so where it is cut
pub accepted_cut : (h : Dated) (o : ℕ) → IsAcceptedWhereCut h o
accepted_cut h o accepted within = record { keeps = rules_cut h o accepted within }
