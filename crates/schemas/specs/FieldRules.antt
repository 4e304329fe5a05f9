-- The rules on fields, one entry at a time.
use Rattle.std.specs.Prelude.{ℕ, ◌≡◌, ◌≤◌, ◌<◌, ◌&&◌, max, List, Bool, true, length, filter, All, Any, IsNone, IfSome}
use Rattle.std.specs.Str.{bytes_eq}
use Rattle.fields.specs.declared.field.Field.{Field}
use Rattle.fields.specs.declared.field.Spell.{Spell}
use Rattle.gate_spec.specs.declared.entry.GateEntry.{GateEntry}
use Rattle.lifecycle.specs.Entry.{subject}
use Rattle.lifecycle.specs.declared.entry.ApiEntry.{ApiEntry}
use Rattle.schemas.specs.Pairs.{IntroducesVersionOf, IsPair, IsSpelling}

-- y is a field of the resource of x
abbrev pub is_of_resource : Field → Field → Bool
is_of_resource x y = bytes_eq y.group x.group && bytes_eq y.resource x.resource

-- two entries give one resource one id
pub record AreOneField (x y : Field) : Type 0 where
  pub group : y.group ≡ x.group
  pub resource : y.resource ≡ x.resource
  pub id : y.id ≡ x.id

-- the release at which the history first speaks of the field: its own, or the history's first where
-- the field stood already
abbrev pub begins_at : ℕ → Field → ℕ
begins_at first x = max x.since first

-- HR11: a field is named once, is one of at most 64 of its resource, and some version of its
-- resource is introduced when it begins
pub record BelongsToResource (first : ℕ) (apis : List ApiEntry) (earlier : List Field)
    (x : Field) : Type 0 where
  pub once : All (λ y. ¬ AreOneField x y) earlier
  pub few : length (filter (is_of_resource x) earlier) < 64
  pub versioned :
      Any (λ a. IntroducesVersionOf x.group x.resource a × (a.since ≤ begins_at first x)) apis

-- a field that isn't guarded and is there in each version of its resource from the version's
-- introduction on
pub record IsAlwaysThere (apis : List ApiEntry) (x : Field) : Type 0 where
  pub unguarded : IsNone x.gate
  pub from_start : All (λ a. IntroducesVersionOf x.group x.resource a → x.since ≤ a.since) apis

-- HR12: a required field is always there
abbrev pub IsRequiredFairly : List ApiEntry → List Field → Field → Type 0
IsRequiredFairly apis earlier x = x.required ≡ true → IsAlwaysThere apis x

-- HR13: a guarding gate is known when the field begins
abbrev pub HasKnownGate : ℕ → List GateEntry → List Field → Field → Type 0
HasKnownGate first gates earlier x =
    IfSome x.gate (λ gate. Any (λ y. (y.name ≡ gate) × (y.since ≤ begins_at first x)) gates)

-- HR14, of a field: each pair that it is of has a spelling
abbrev pub IsSpelledThroughout : List ApiEntry → List Spell → List Field → Field → Type 0
IsSpelledThroughout apis spells earlier x =
    All (λ a. IsPair apis x a → Any (IsSpelling x (subject a)) spells) apis
