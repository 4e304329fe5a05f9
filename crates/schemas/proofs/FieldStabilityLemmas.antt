-- The rules on fields and spellings hold where their denial doesn't.
use Rattle.std.proofs.Common.{ℕ, ℤ, pos, negsuc, ◌≡◌, ◌≤◌, ◌<◌, ◌^◌, List, true, false, Option, Some, None, length, max, refl, inl, inr, ◌⊎◌, arith}
use Rattle.std.specs.Prelude.{slice_get, filter, All, Any, IfSome, IsNone}
use Rattle.std.specs.Str.{bytes_eq}
use Rattle.std.proofs.lemmas.Bool.{cases_lt}
use Rattle.std.proofs.lemmas.Int.{ints}
use Rattle.std.proofs.lemmas.Slice.Eq.{bytes_eq-Decides}
use Rattle.fields.specs.declared.field.Field.{Field}
use Rattle.fields.specs.declared.field.Form.{Form}
use Rattle.fields.specs.declared.field.Form.TheVariants.{Same, Not, Decimal}
use Rattle.fields.specs.declared.field.Spell.{Spell}
use Rattle.fields.specs.declared.value.FieldType.{FieldType}
use Rattle.fields.specs.declared.value.FieldType.TheVariants.{Bool as OfBool, Int as OfInt, Text as OfText, TextList as OfTextList}
use Rattle.fields.specs.declared.value.FieldValue.{FieldValue}
use Rattle.fields.specs.declared.value.FieldValue.TheVariants.{Bool as ABool, Int as AnInt, Text as AText, List as AList}
use Rattle.gate_spec.specs.declared.entry.GateEntry.{GateEntry}
use Rattle.lifecycle.specs.Entry.{GroupVersionResource, subject}
use Rattle.lifecycle.specs.declared.entry.ApiEntry.{ApiEntry}
use Rattle.schemas.proofs.DecisionLemmas.{any_decided, decided, both, at_most_decided, introduction_decided, forgotten_decided, IsStable, stable_decided, stable_not, stable_to, stable_all, stable_holds, stable_less, stable_at_most, stable_bool}
use Rattle.schemas.specs.FieldRules.{is_of_resource, AreOneField, BelongsToResource, IsAlwaysThere, begins_at}
use Rattle.schemas.specs.Pairs.{IntroducesVersionOf, IsPair, IsOfField, IsOfVersion, IsSpelling, SpellsPair, AreForOneVersion, AreOfOnePair}
use Rattle.fields.specs.Table.{AreApart, IsFree, IsFormOf, IsShort, IsDefaultOf, IsInt64, IsValue, type_of}
use Rattle.schemas.specs.SpellRules.{SpellsPairOnce, HasOwnPath, FitsType}

same_text : (a b : List ℕ) → (a ≡ b) ⊎ ¬ (a ≡ b)
same_text a b = decided (bytes_eq a b) (bytes_eq-Decides a b)

introduces_decided : (group resource : List ℕ) (x : ApiEntry) → IntroducesVersionOf group resource x ⊎ ¬ IntroducesVersionOf group resource x
introduces_decided group resource x = elim (both (both (same_text x.group group) (same_text x.resource resource)) (introduction_decided x.change)) [
  | inl all ↦ inl (record { of_group = all.0.0; of_resource = all.0.1; introduces = all.1 })
  | inr not_all ↦ inr (λ (k : IntroducesVersionOf group resource x). not_all ((k.of_group, k.of_resource), k.introduces))
]

of_field_decided : (f : Field) (s : Spell) → IsOfField f s ⊎ ¬ IsOfField f s
of_field_decided f s = elim (both (both (same_text f.group s.group) (same_text f.resource s.resource)) (same_text f.id s.field)) [
  | inl all ↦ inl (record { group = all.0.0; resource = all.0.1; id = all.1 })
  | inr not_all ↦ inr (λ (k : IsOfField f s). not_all ((k.group, k.resource), k.id))
]

of_version_decided : (name : GroupVersionResource) (s : Spell) → IsOfVersion name s ⊎ ¬ IsOfVersion name s
of_version_decided name s = elim (both (both (same_text name.group s.group) (same_text name.version s.version)) (same_text name.resource s.resource)) [
  | inl all ↦ inl (record { group = all.0.0; version = all.0.1; resource = all.1 })
  | inr not_all ↦ inr (λ (k : IsOfVersion name s). not_all ((k.group, k.version), k.resource))
]

not_decided : {P : Type 0} → P ⊎ ¬ P → (¬ P) ⊎ ¬ ¬ P
not_decided d = elim d [ inl holds ↦ inr (λ fails. fails holds) | inr fails ↦ inl fails ]

pair_decided : (apis : List ApiEntry) (f : Field) (x : ApiEntry) → IsPair apis f x ⊎ ¬ IsPair apis f x
pair_decided apis f x = elim (both (introduces_decided f.group f.resource x) (not_decided (forgotten_decided apis (subject x) f.since))) [
  | inl all ↦ inl (record { version = all.0; kept = all.1 })
  | inr not_all ↦ inr (λ (k : IsPair apis f x). not_all (k.version, k.kept))
]

same_number : (m n : ℕ) → (m ≡ n) ⊎ ¬ (m ≡ n)
same_number m n = elim (both (at_most_decided m n) (at_most_decided n m)) [
  | inl all ↦ inl (let low : m ≤ n = all.0 in let high : n ≤ m = all.1 in omega arith)
  | inr not_all ↦ inr (λ (e : m ≡ n). not_all ((omega arith), (omega arith)))
]

spells_pair_decided : (apis : List ApiEntry) (f : Field) (s : Spell) (x : ApiEntry) → SpellsPair apis f s x ⊎ ¬ SpellsPair apis f s x
spells_pair_decided apis f s x = elim (both (both (pair_decided apis f x) (of_version_decided (subject x) s)) (same_number s.since (max f.since x.since))) [
  | inl all ↦ inl (record { pair = all.0.0; spelling = all.0.1; dated = all.1 })
  | inr not_all ↦ inr (λ (k : SpellsPair apis f s x). not_all ((k.pair, k.spelling), k.dated))
]

pub belongs_stable : (first : ℕ) (apis : List ApiEntry) (earlier : List Field) (x : Field) → IsStable (BelongsToResource first apis earlier x)
belongs_stable first apis earlier x h = record {
  once = stable_all (λ y. ¬ AreOneField x y) earlier (λ y. stable_not) (λ fails. h (λ (k : BelongsToResource first apis earlier x). fails k.once));
  few = stable_less (length (filter (is_of_resource x) earlier)) 64 (λ fails. h (λ (k : BelongsToResource first apis earlier x). fails k.few));
  versioned = stable_decided (any_decided (λ a. IntroducesVersionOf x.group x.resource a × (a.since ≤ begins_at first x)) (λ a. both (introduces_decided x.group x.resource a) (at_most_decided a.since (begins_at first x))) apis) (λ fails. h (λ (k : BelongsToResource first apis earlier x). fails k.versioned));
}

none_stable : {X : Type 0} (o : Option X) → IsStable (IsNone o)
none_stable None = stable_bool false false
none_stable (Some x) = stable_bool true false

pub always_stable : (apis : List ApiEntry) (x : Field) → IsStable (IsAlwaysThere apis x)
always_stable apis x h = record {
  unguarded = none_stable x.gate (λ fails. h (λ (k : IsAlwaysThere apis x). fails k.unguarded));
  from_start = stable_all (λ a. IntroducesVersionOf x.group x.resource a → x.since ≤ a.since) apis (λ a. stable_to (stable_at_most x.since a.since)) (λ fails. h (λ (k : IsAlwaysThere apis x). fails k.from_start));
}

pub gate_stable : (first : ℕ) (gates : List GateEntry) (x : Field) (gate : Option (List ℕ)) → IsStable (IfSome gate (λ name. Any (λ y. (y.name ≡ name) × (y.since ≤ begins_at first x)) gates))
gate_stable first gates x None = stable_holds
gate_stable first gates x (Some name) = stable_decided (any_decided (λ y. (y.name ≡ name) × (y.since ≤ begins_at first x)) (λ y. both (same_text y.name name) (at_most_decided y.since (begins_at first x))) gates)

pub spelled_stable : (apis : List ApiEntry) (spells : List Spell) (x : Field) → IsStable (All (λ a. IsPair apis x a → Any (IsSpelling x (subject a)) spells) apis)
spelled_stable apis spells x = stable_all (λ a. IsPair apis x a → Any (IsSpelling x (subject a)) spells) apis (λ a. stable_to (stable_decided (any_decided (IsSpelling x (subject a)) (λ s. both (of_field_decided x s) (of_version_decided (subject a) s)) spells)))

pub paired_stable : (apis : List ApiEntry) (fields : List Field) (earlier : List Spell) (s : Spell) → IsStable (SpellsPairOnce apis fields earlier s)
paired_stable apis fields earlier s h = record {
  paired = stable_decided (any_decided (λ f. IsOfField f s × Any (SpellsPair apis f s) apis) (λ f. both (of_field_decided f s) (any_decided (SpellsPair apis f s) (spells_pair_decided apis f s) apis)) fields) (λ fails. h (λ (k : SpellsPairOnce apis fields earlier s). fails k.paired));
  single = stable_all (λ t. ¬ AreOfOnePair s t) earlier (λ t. stable_not) (λ fails. h (λ (k : SpellsPairOnce apis fields earlier s). fails k.single));
}

free_stable : (segment : Option (List ℕ)) → IsStable (IfSome segment IsFree)
free_stable None = stable_holds
free_stable (Some text) = λ h. record {
  not_version = stable_not (λ fails. h (λ (k : IsFree text). fails k.not_version));
  not_kind = stable_not (λ fails. h (λ (k : IsFree text). fails k.not_kind));
  not_metadata = stable_not (λ fails. h (λ (k : IsFree text). fails k.not_metadata));
}

apart_stable : (p q : List (List ℕ)) → IsStable (AreApart p q)
apart_stable p q h = record {
  not_through = stable_not (λ fails. h (λ (k : AreApart p q). fails k.not_through));
  not_within = stable_not (λ fails. h (λ (k : AreApart p q). fails k.not_within));
}

pub path_stable : (earlier : List Spell) (s : Spell) → IsStable (HasOwnPath earlier s)
path_stable earlier s h = record {
  free = free_stable (slice_get s.path 0) (λ fails. h (λ (k : HasOwnPath earlier s). fails k.free));
  apart = stable_all (λ t. AreForOneVersion s t → AreApart s.path t.path) earlier (λ t. stable_to (apart_stable s.path t.path)) (λ fails. h (λ (k : HasOwnPath earlier s). fails k.apart));
}

type_stable : (one other : FieldType) → IsStable (one ≡ other)
type_stable OfBool OfBool h = refl
type_stable OfInt OfInt h = refl
type_stable OfText OfText h = refl
type_stable OfTextList OfTextList h = refl
type_stable OfBool OfInt h = absurd (h (λ e. cc))
type_stable OfBool OfText h = absurd (h (λ e. cc))
type_stable OfBool OfTextList h = absurd (h (λ e. cc))
type_stable OfInt OfBool h = absurd (h (λ e. cc))
type_stable OfInt OfText h = absurd (h (λ e. cc))
type_stable OfInt OfTextList h = absurd (h (λ e. cc))
type_stable OfText OfBool h = absurd (h (λ e. cc))
type_stable OfText OfInt h = absurd (h (λ e. cc))
type_stable OfText OfTextList h = absurd (h (λ e. cc))
type_stable OfTextList OfBool h = absurd (h (λ e. cc))
type_stable OfTextList OfInt h = absurd (h (λ e. cc))
type_stable OfTextList OfText h = absurd (h (λ e. cc))

form_stable : (ty : FieldType) (form : Form) → IsStable (IsFormOf ty form)
form_stable ty Same = stable_holds
form_stable ty Not = type_stable ty OfBool
form_stable ty Decimal = type_stable ty OfInt

short_stable : (value : FieldValue) → IsStable (IsShort value)
short_stable (ABool b) = stable_holds
short_stable (AnInt n) = stable_holds
short_stable (AText t) = stable_at_most (length t) 1024
short_stable (AList l) = stable_holds

whole_stable : (z : ℤ) → IsStable (IsInt64 z)
whole_stable (pos n) h = elim (cases_lt n (2 ^ 63)) [
  | inl below ↦ omega (arith, ints)
  | inr above ↦ absurd (h (λ fits. omega (arith, ints)))
]
whole_stable (negsuc n) h = elim (cases_lt n (2 ^ 63)) [
  | inl below ↦ omega (arith, ints)
  | inr above ↦ absurd (h (λ fits. omega (arith, ints)))
]

value_stable : (value : FieldValue) → IsStable (IsValue value)
value_stable (ABool b) = stable_holds
value_stable (AnInt n) = whole_stable n
value_stable (AText t) = stable_holds
value_stable (AList l) = stable_holds

default_stable : (ty : FieldType) (default : Option FieldValue) → IsStable (IfSome default (IsDefaultOf ty))
default_stable ty None = stable_holds
default_stable ty (Some value) = λ h. record {
  typed = type_stable (type_of value) ty (λ fails. h (λ (k : IsDefaultOf ty value). fails k.typed));
  whole = value_stable value (λ fails. h (λ (k : IsDefaultOf ty value). fails k.whole));
  not_list = stable_not (λ fails. h (λ (k : IsDefaultOf ty value). fails k.not_list));
  short = short_stable value (λ fails. h (λ (k : IsDefaultOf ty value). fails k.short));
}

pub fit_stable : (ty : FieldType) (form : Form) (default : Option FieldValue) → IsStable (FitsType ty form default)
fit_stable ty form default h = record {
  of_form = form_stable ty form (λ fails. h (λ (k : FitsType ty form default). fails k.of_form));
  of_default = default_stable ty default (λ fails. h (λ (k : FitsType ty form default). fails k.of_default));
}
