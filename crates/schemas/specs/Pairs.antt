-- Which fields and versions belong together, and which spellings are theirs.
use Rattle.std.specs.Prelude.{ℕ, ◌≡◌, max, List, Some, Any, slice_get}
use Rattle.fields.specs.declared.field.Field.{Field}
use Rattle.fields.specs.declared.field.Spell.{Spell}
use Rattle.lifecycle.specs.Entry.{GroupVersionResource, subject, IsIntroduction}
use Rattle.lifecycle.specs.declared.entry.ApiEntry.{ApiEntry}
use Rattle.schemas.specs.ApiRules.{IsForgotten}

-- x introduces a version of the resource
pub record IntroducesVersionOf (group resource : List ℕ) (x : ApiEntry) : Type 0 where
  pub of_group : x.group ≡ group
  pub of_resource : x.resource ≡ resource
  pub introduces : IsIntroduction x.change

-- a field and a version of its resource, here the one that x introduces, are a pair, unless the
-- version is forgotten when the field begins
pub record IsPair (apis : List ApiEntry) (f : Field) (x : ApiEntry) : Type 0 where
  pub version : IntroducesVersionOf f.group f.resource x
  pub kept : ¬ IsForgotten apis (subject x) f.since

-- s spells the field, in some version of its resource
pub record IsOfField (f : Field) (s : Spell) : Type 0 where
  pub group : f.group ≡ s.group
  pub resource : f.resource ≡ s.resource
  pub id : f.id ≡ s.field

-- s is for this version
pub record IsOfVersion (name : GroupVersionResource) (s : Spell) : Type 0 where
  pub group : name.group ≡ s.group
  pub version : name.version ≡ s.version
  pub resource : name.resource ≡ s.resource

-- s spells the field in this version
abbrev pub IsSpelling : Field → GroupVersionResource → Spell → Type 0
IsSpelling f name s = IsOfField f s × IsOfVersion name s

-- two spellings are for one version
pub record AreForOneVersion (s t : Spell) : Type 0 where
  pub group : s.group ≡ t.group
  pub version : s.version ≡ t.version
  pub resource : s.resource ≡ t.resource

-- two spellings are of one field in one version
abbrev pub AreOfOnePair : Spell → Spell → Type 0
AreOfOnePair s t = AreForOneVersion s t × (s.field ≡ t.field)

-- the field has exactly one spelling in the version
pub record HasOneSpelling (spells : List Spell) (f : Field)
    (name : GroupVersionResource) : Type 0 where
  pub some : Any (IsSpelling f name) spells
  pub one : (i j : ℕ) (s t : Spell) → slice_get spells i ≡ Some s → slice_get spells j ≡ Some t
      → IsSpelling f name s → IsSpelling f name t → i ≡ j

-- each pair has exactly one spelling
abbrev pub EachPairHasOneSpelling : List ApiEntry → List Field → List Spell → Type 0
EachPairHasOneSpelling apis fields spells =
    (i j : ℕ) (f : Field) (x : ApiEntry) → slice_get fields i ≡ Some f → slice_get apis j ≡ Some x
    → IsPair apis f x → HasOneSpelling spells f (subject x)

-- s is the spelling of the field's pair with the version that x introduces, dated when both are
-- there
pub record SpellsPair (apis : List ApiEntry) (f : Field) (s : Spell) (x : ApiEntry) : Type 0 where
  pub pair : IsPair apis f x
  pub spelling : IsOfVersion (subject x) s
  pub dated : s.since ≡ max f.since x.since

-- s is the spelling of a pair
abbrev pub IsPaired : List ApiEntry → List Field → Spell → Type 0
IsPaired apis fields s = Any (λ f. IsOfField f s × Any (SpellsPair apis f s) apis) fields

-- each pair has exactly one spelling, and each spelling is that of a pair
pub record AreSpelledOnce (apis : List ApiEntry) (fields : List Field)
    (spells : List Spell) : Type 0 where
  pub pairs : EachPairHasOneSpelling apis fields spells
  pub spellings : (i : ℕ) (s : Spell) → slice_get spells i ≡ Some s → IsPaired apis fields s
