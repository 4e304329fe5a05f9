-- What each rule says of an accepted history.
use Rattle.std.proofs.Common.{ℕ, List, [], ◌∷◌, ◌++◌}
use Rattle.schemas.specs.Dated.{Dated}
use Rattle.schemas.specs.Places.{Each}
use Rattle.schemas.specs.GateRules.{RisesInGate, FitsStage, FollowsLockedSpec}
use Rattle.schemas.specs.ApiRules.{StandsInOrder, NamesItsKind, DeprecatesFairly, KeepsPlan, ForgetsLate}
use Rattle.schemas.specs.FieldRules.{BelongsToResource, IsRequiredFairly, HasKnownGate, IsSpelledThroughout}
use Rattle.schemas.specs.SpellRules.{SpellsPairOnce, HasOwnPath, FitsField}
use Rattle.schemas.specs.Rules.{Check, AllHold, IsAccepted, release_check, date_checks, gate_checks, api_checks, field_checks, first_of, last_of}

hold_front : (h : Dated) (xs ys : List Check) → AllHold h (xs ++ ys) → AllHold h xs
hold_front h [] ys all = tt
hold_front h (x ∷ xs) ys all = (all.0, hold_front h xs ys all.1)

hold_back : (h : Dated) (xs ys : List Check) → AllHold h (xs ++ ys) → AllHold h ys
hold_back h [] ys all = all
hold_back h (x ∷ xs) ys all = hold_back h xs ys all.1

module _ (h : Dated) (accepted : IsAccepted h) where
  before_fields : AllHold h (release_check ∷ date_checks ++ gate_checks ++ api_checks)
  before_fields = hold_front h (release_check ∷ date_checks ++ gate_checks ++ api_checks) field_checks accepted.keeps

  on_gates : AllHold h gate_checks
  on_gates = hold_back h (release_check ∷ date_checks) gate_checks (hold_front h (release_check ∷ date_checks ++ gate_checks) api_checks before_fields)

  on_apis : AllHold h api_checks
  on_apis = hold_back h (release_check ∷ date_checks ++ gate_checks) api_checks before_fields

  on_fields : AllHold h field_checks
  on_fields = hold_back h (release_check ∷ date_checks ++ gate_checks ++ api_checks) field_checks accepted.keeps

  pub gates_rise : Each RisesInGate h.gates
  gates_rise = on_gates.0

  pub gates_fit_stages : Each FitsStage h.gates
  gates_fit_stages = on_gates.1.0

  pub versions_in_order : Each StandsInOrder h.apis
  versions_in_order = on_apis.0

  pub removals_planned : Each (KeepsPlan h.apis (last_of h)) h.apis
  removals_planned = on_apis.1.1.1.0

  pub forgettings_late : Each (ForgetsLate h.apis) h.apis
  forgettings_late = on_apis.1.1.1.1.0

  pub fields_belong : Each (BelongsToResource (first_of h) h.apis) h.fields
  fields_belong = on_fields.0

  pub spelled_throughout : Each (IsSpelledThroughout h.apis h.spells) h.fields
  spelled_throughout = on_fields.1.1.1.0

  pub spelled_once : Each (SpellsPairOnce h.apis h.fields) h.spells
  spelled_once = on_fields.1.1.1.1.0

  pub paths_apart : Each HasOwnPath h.spells
  paths_apart = on_fields.1.1.1.1.1.0

  pub types_fit : Each (FitsField h.fields) h.spells
  types_fit = on_fields.1.1.1.1.1.1.0
