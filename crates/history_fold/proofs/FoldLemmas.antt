-- A history that is folded keeps its shapes and its rules.
use Rattle.std.proofs.Common.{ℕ, ◌≡◌, ◌≤◌, not, List, [], ◌∷◌, ◌++◌, Option, Some, None, subst, sym, arith}
use Rattle.std.specs.Prelude.{IsSomeAnd, unwrap_or}
use Rattle.std.specs.List.{AllByRecursion}
use Rattle.std.proofs.ByRecursion.{all_kept_by}
use Rattle.fields.specs.declared.field.Field.{Field}
use Rattle.fields.specs.declared.field.Spell.{Spell}
use Rattle.gate_spec.specs.declared.entry.GateEntry.{GateEntry}
use Rattle.lifecycle.specs.Entry.{subject}
use Rattle.lifecycle.specs.declared.entry.ApiEntry.{ApiEntry}
use Rattle.minor_version.specs.Ranges.{floor_of}
use Rattle.schemas.specs.Dated.{Dated, IsShaped}
use Rattle.schemas.specs.Rules.{Check, AllHold, IsAccepted, release_check, date_checks, gate_checks, api_checks, field_checks, checks, first_of, last_of}
use Rattle.schemas.specs.Shapes.{IsMinor, IsShapedGate, IsShapedApi, IsShapedField, IsShapedSpell}
use Rattle.schemas.proofs.LawLemmas.{gates_rise}
use Rattle.history_fold.specs.Folded.{is_past, is_forgotten, version_of, gates_from, apis_from, spells_from, folded_at, floor_in, folded}
use Rattle.history_fold.specs.Laws.{IsAcceptedWhereFolded}
use Rattle.history_fold.proofs.ApiFoldLemmas as on_apis
use Rattle.history_fold.proofs.FieldFoldLemmas as on_fields
use Rattle.history_fold.proofs.GateFoldLemmas as on_gates

-- ---- shapes

pub shaped_folded : (h : Dated) (floor : ℕ) → IsMinor floor → IsShaped h → IsShaped (folded_at h floor)
shaped_folded h floor minor shaped = record {
  first = minor;
  last = shaped.last;
  gates = all_kept_by (λ x. not (is_past h.gates floor x)) IsShapedGate h.gates shaped.gates;
  apis = all_kept_by (λ x. not (is_forgotten h.apis floor (subject x))) IsShapedApi h.apis shaped.apis;
  fields = shaped.fields;
  spells = all_kept_by (λ s. not (is_forgotten h.apis floor (version_of s))) IsShapedSpell h.spells shaped.spells;
}

-- the same, of lists that are known to be those of the fold
pub shaped_as : (h : Dated) (floor : ℕ) (gates : List GateEntry) (apis : List ApiEntry) (fields : List Field) (spells : List Spell) → IsMinor floor → IsShaped h
    → gates ≡ gates_from h.gates floor → apis ≡ apis_from h.apis floor → fields ≡ h.fields → spells ≡ spells_from h.apis h.spells floor
    → IsShaped (record { first = Some floor; last = h.last; gates = gates; apis = apis; fields = fields; spells = spells })
shaped_as h floor gates apis fields spells minor shaped g a f s =
    let left = shaped_folded h floor minor shaped in
    record {
      first = left.first;
      last = left.last;
      gates = subst (AllByRecursion IsShapedGate) (sym g) left.gates;
      apis = subst (AllByRecursion IsShapedApi) (sym a) left.apis;
      fields = subst (AllByRecursion IsShapedField) (sym f) left.fields;
      spells = subst (AllByRecursion IsShapedSpell) (sym s) left.spells;
    }

-- ---- rules

hold_both : (h : Dated) (xs ys : List Check) → AllHold h xs → AllHold h ys → AllHold h (xs ++ ys)
hold_both h [] ys some more = more
hold_both h (x ∷ xs) ys some more = (some.0, hold_both h xs ys some.1 more)

hold_front : (h : Dated) (xs ys : List Check) → AllHold h (xs ++ ys) → AllHold h xs
hold_front h [] ys all = tt
hold_front h (x ∷ xs) ys all = (all.0, hold_front h xs ys all.1)

hold_back : (h : Dated) (xs ys : List Check) → AllHold h (xs ++ ys) → AllHold h ys
hold_back h [] ys all = all
hold_back h (x ∷ xs) ys all = hold_back h xs ys all.1

-- the first release isn't above the floor, nor that above the last one
pub first_below : (first last : ℕ) → first ≤ floor_of first last
first_below first last = omega arith

releases_folded : (first last : Option ℕ) → IsSomeAnd first (λ f. IsSomeAnd last (λ l. f ≤ l)) → IsSomeAnd last (λ l. floor_of (unwrap_or first 0) (unwrap_or last 0) ≤ l)
releases_folded None last rule = absurd rule
releases_folded (Some first) None rule = rule
releases_folded (Some first) (Some last) rule = let h : first ≤ last = rule in omega arith

module _ (h : Dated) (accepted : IsAccepted h) where
  before_fields : AllHold h (release_check ∷ date_checks ++ gate_checks ++ api_checks)
  before_fields = hold_front h (release_check ∷ date_checks ++ gate_checks ++ api_checks) field_checks accepted.keeps

  before_apis : AllHold h (release_check ∷ date_checks ++ gate_checks)
  before_apis = hold_front h (release_check ∷ date_checks ++ gate_checks) api_checks before_fields

  of_dates : AllHold h (release_check ∷ date_checks)
  of_dates = hold_front h (release_check ∷ date_checks) gate_checks before_apis

  of_gates : AllHold h gate_checks
  of_gates = hold_back h (release_check ∷ date_checks) gate_checks before_apis

  of_apis : AllHold h api_checks
  of_apis = hold_back h (release_check ∷ date_checks ++ gate_checks) api_checks before_fields

  of_fields : AllHold h field_checks
  of_fields = hold_back h (release_check ∷ date_checks ++ gate_checks ++ api_checks) field_checks accepted.keeps

  from : first_of h ≤ floor_in h
  from = first_below (first_of h) (last_of h)

  dates_folded : AllHold (folded h) (release_check ∷ date_checks)
  dates_folded =
      let gates = on_gates.gates_dated h.gates (floor_in h) (last_of h) of_dates.1.0 in
      let apis = on_apis.apis_dated h.apis (floor_in h) (last_of h) of_dates.1.1.0 in
      let spells = on_fields.spells_dated h.apis h.fields h.spells (floor_in h) (last_of h) of_dates.1.1.1.1.0 in
      (releases_folded h.first h.last of_dates.0, (gates, (apis, (of_dates.1.1.1.0, (spells, tt)))))

  gates_folded : AllHold (folded h) gate_checks
  gates_folded =
      let rise = gates_rise h accepted in
      let rises = on_gates.gates_rise_folded h.gates (floor_in h) rise of_gates.0 in
      let fits = on_gates.stages_fit_folded h.gates (floor_in h) of_gates.1.0 in
      let ripe = on_gates.removals_ripe_folded h.gates (floor_in h) rise of_gates.0 of_gates.1.1.0 in
      (rises, (fits, (ripe, tt)))

  apis_folded : AllHold (folded h) api_checks
  apis_folded =
      let order = of_apis.0 in
      let late = of_apis.1.1.1.1.0 in
      let ordered = on_apis.order_folded h.apis (floor_in h) order in
      let kinds = on_apis.kinds_folded h.apis (floor_in h) of_apis.1.0 in
      let fair = on_apis.deprecations_fair_folded h.apis (floor_in h) late of_apis.1.1.0 in
      let plan = on_apis.plan_folded h.apis (floor_in h) (last_of h) order late of_apis.1.1.1.0 in
      let forgets = on_apis.forgettings_late_folded h.apis (floor_in h) late in
      (ordered, (kinds, (fair, (plan, (forgets, tt)))))

  fields_folded : AllHold (folded h) field_checks
  fields_folded =
      let belongs = on_fields.fields_belong_folded h accepted (first_of h) (floor_in h) from of_fields.0 in
      let required = on_fields.required_fairly_folded h.apis h.fields (floor_in h) of_fields.1.0 in
      let guarded = on_fields.gates_known_folded h.gates h.fields (first_of h) (floor_in h) from of_fields.1.1.0 in
      let spelled = on_fields.spelled_throughout_folded h.apis h.fields h.spells (floor_in h) of_fields.1.1.1.0 in
      let paired = on_fields.spelled_once_folded h.apis h.fields h.spells (floor_in h) of_fields.1.1.1.1.0 in
      let paths = on_fields.own_paths_folded h.apis h.fields h.spells (floor_in h) of_fields.1.1.1.1.1.0 in
      let types = on_fields.fields_fit_folded h.apis h.fields h.spells (floor_in h) of_fields.1.1.1.1.1.1.0 in
      (belongs, (required, (guarded, (spelled, (paired, (paths, (types, tt)))))))

  rules_folded : AllHold (folded h) checks
  rules_folded =
      hold_both (folded h) (release_check ∷ date_checks ++ gate_checks ++ api_checks) field_checks
      (hold_both (folded h) (release_check ∷ date_checks ++ gate_checks) api_checks (hold_both (folded h) (release_check ∷ date_checks) gate_checks dates_folded gates_folded) apis_folded) fields_folded

-- a history that is accepted is so where it is folded
pub accepted_folded : (h : Dated) → IsAcceptedWhereFolded h
accepted_folded h accepted = record { keeps = rules_folded h accepted }
