-- What makes a release history accepted, and which rule a history breaks first.
use Rattle.std.specs.Prelude.{ℕ, ◌≡◌, ◌≤◌, ◌⊎◌, List, [], ◌∷◌, ◌++◌, IsSomeAnd, unwrap_or, MatchOption}
use Rattle.std.specs.declared.option.Option.{Option}
use Rattle.fields.specs.declared.field.Field.{Field}
use Rattle.fields.specs.declared.field.Spell.{Spell}
use Rattle.gate_spec.specs.declared.entry.GateEntry.{GateEntry}
use Rattle.lifecycle.specs.declared.entry.ApiEntry.{ApiEntry}
use Rattle.schemas.specs.declared.array.Array.{Array}
use Rattle.schemas.specs.declared.array.Array.TheVariants.{Top, Gate, Api, Field as FieldArray, Spell as SpellArray}
use Rattle.schemas.specs.declared.broken.Broken.{Broken}
use Rattle.schemas.specs.Dated.{Dated}
use Rattle.schemas.specs.Places.{Each, Breaks, IsLeast}
use Rattle.schemas.specs.GateRules.{RisesInGate, FitsStage, FollowsLockedSpec}
use Rattle.schemas.specs.ApiRules.{StandsInOrder, NamesItsKind, DeprecatesFairly, KeepsPlan, ForgetsLate}
use Rattle.schemas.specs.FieldRules.{BelongsToResource, IsRequiredFairly, HasKnownGate, IsSpelledThroughout}
use Rattle.schemas.specs.SpellRules.{SpellsPairOnce, HasOwnPath, FitsField}

-- HR1: first and last are there, and first isn't above last
abbrev pub HasReleases : Dated → Type 0
HasReleases h = IsSomeAnd h.first (λ first. IsSomeAnd h.last (λ last. first ≤ last))

-- the first and the last release, or 0 where none is named
abbrev pub first_of : Dated → ℕ
first_of h = unwrap_or h.first 0

abbrev pub last_of : Dated → ℕ
last_of h = unwrap_or h.last 0

-- HR2: the entry isn't dated after last
abbrev pub IsGateBy : ℕ → List GateEntry → GateEntry → Type 0
IsGateBy last earlier x = x.since ≤ last

abbrev pub IsApiBy : ℕ → List ApiEntry → ApiEntry → Type 0
IsApiBy last earlier x = x.since ≤ last

abbrev pub IsFieldBy : ℕ → List Field → Field → Type 0
IsFieldBy last earlier x = x.since ≤ last

abbrev pub IsSpellBy : ℕ → List Spell → Spell → Type 0
IsSpellBy last earlier x = x.since ≤ last

-- one test of a history: the rule, the array that it goes over, where it holds, and which entry
-- number breaks it there
pub record Check : Type 1 where
  pub rule : ℕ
  pub array : Array
  pub Holds : Dated → Type 0
  pub IsBrokenAt : Dated → ℕ → Type 0

abbrev pub gate_check : ℕ → (Dated → List GateEntry → GateEntry → Type 0) → Check
gate_check rule Keeps = record {
  rule = rule;
  array = Gate;
  Holds = λ h. Each (Keeps h) h.gates;
  IsBrokenAt = λ h. Breaks (Keeps h) h.gates;
}

abbrev pub api_check : ℕ → (Dated → List ApiEntry → ApiEntry → Type 0) → Check
api_check rule Keeps = record {
  rule = rule;
  array = Api;
  Holds = λ h. Each (Keeps h) h.apis;
  IsBrokenAt = λ h. Breaks (Keeps h) h.apis;
}

abbrev pub field_check : ℕ → (Dated → List Field → Field → Type 0) → Check
field_check rule Keeps = record {
  rule = rule;
  array = FieldArray;
  Holds = λ h. Each (Keeps h) h.fields;
  IsBrokenAt = λ h. Breaks (Keeps h) h.fields;
}

abbrev pub spell_check : ℕ → (Dated → List Spell → Spell → Type 0) → Check
spell_check rule Keeps = record {
  rule = rule;
  array = SpellArray;
  Holds = λ h. Each (Keeps h) h.spells;
  IsBrokenAt = λ h. Breaks (Keeps h) h.spells;
}

-- the test of the releases, those of the dates, and those of gates, of versions, and of fields and
-- spellings
abbrev pub release_check : Check
release_check = record {
  rule = 1;
  array = Top;
  Holds = HasReleases;
  IsBrokenAt = λ h number. (number ≡ 0) × ¬ HasReleases h;
}

abbrev pub date_checks : List Check
date_checks =
    gate_check 2 (λ h. IsGateBy (last_of h))
    ∷ api_check 2 (λ h. IsApiBy (last_of h))
    ∷ field_check 2 (λ h. IsFieldBy (last_of h))
    ∷ spell_check 2 (λ h. IsSpellBy (last_of h))
    ∷ []

abbrev pub gate_checks : List Check
gate_checks =
    gate_check 3 (λ h. RisesInGate)
    ∷ gate_check 4 (λ h. FitsStage)
    ∷ gate_check 5 (λ h. FollowsLockedSpec)
    ∷ []

abbrev pub api_checks : List Check
api_checks =
    api_check 6 (λ h. StandsInOrder)
    ∷ api_check 7 (λ h. NamesItsKind)
    ∷ api_check 8 (λ h. DeprecatesFairly h.apis)
    ∷ api_check 9 (λ h. KeepsPlan h.apis (last_of h))
    ∷ api_check 10 (λ h. ForgetsLate h.apis)
    ∷ []

abbrev pub field_checks : List Check
field_checks =
    field_check 11 (λ h. BelongsToResource (first_of h) h.apis)
    ∷ field_check 12 (λ h. IsRequiredFairly h.apis)
    ∷ field_check 13 (λ h. HasKnownGate (first_of h) h.gates)
    ∷ field_check 14 (λ h. IsSpelledThroughout h.apis h.spells)
    ∷ spell_check 14 (λ h. SpellsPairOnce h.apis h.fields)
    ∷ spell_check 15 (λ h. HasOwnPath)
    ∷ spell_check 16 (λ h. FitsField h.fields)
    ∷ []

-- the tests, in the order in which they are made
abbrev pub checks : List Check
checks = release_check ∷ date_checks ++ gate_checks ++ api_checks ++ field_checks

-- each of the tests holds
abbrev pub AllHold : Dated → List Check → Type 0
AllHold h [] = Unit {0}
AllHold h (check ∷ more) = check.Holds h × AllHold h more

-- a history that keeps the rules
pub record IsAccepted (h : Dated) : Type 0 where
  pub keeps : AllHold h checks

-- no entry breaks any of the rules
abbrev pub IsUnbroken : Dated → List Check → Type 0
IsUnbroken h [] = Unit {0}
IsUnbroken h (check ∷ more) = ((number : ℕ) → ¬ check.IsBrokenAt h number) × IsUnbroken h more

-- of the tests, the first that finds a fault finds it in this rule, first at the entry with this
-- number
abbrev pub IsFirstFault : Dated → List Check → ℕ → Array → ℕ → Type 0
IsFirstFault h [] rule array number = ⊥
IsFirstFault h (check ∷ more) rule array number =
    ((rule ≡ check.rule) × (array ≡ check.array) × IsLeast (check.IsBrokenAt h) number)
    ⊎ (((k : ℕ) → ¬ check.IsBrokenAt h k) × IsFirstFault h more rule array number)

-- what the tests find: the first fault, or that there is none
abbrev pub FindsFault : Dated → List Check → Option Broken → Type 0
FindsFault h tests found =
    MatchOption found (IsUnbroken h tests) (λ b. IsFirstFault h tests b.rule b.array b.index)
