-- The shapes of what a release history holds.
use Rattle.std.specs.Prelude.{ℕ, ◌≡◌, ◌≢◌, ◌≤◌, ◌⊎◌, List, [], length, codes, IfSome}
use Rattle.std.specs.Str.{IsUtf8}
use Rattle.basis.specs.Names.{IsLowerOrDigit, IsLetterOrDigit, IsDottedLabels, BeginsLower, BeginsUpper}
use Rattle.fields.specs.Table.{IsPath, IsInt64}
use Rattle.fields.specs.declared.field.Field.{Field}
use Rattle.fields.specs.declared.field.Spell.{Spell}
use Rattle.fields.specs.declared.value.FieldValue.{FieldValue}
use Rattle.fields.specs.declared.value.FieldValue.TheVariants.{Bool, Int, Text, List as Texts}
use Rattle.gate_spec.specs.declared.entry.GateEntry.{GateEntry}
use Rattle.lifecycle.specs.Version.{IsVersion}
use Rattle.lifecycle.specs.declared.entry.ApiChange.{ApiChange}
use Rattle.lifecycle.specs.declared.entry.ApiChange.TheVariants.{Introduced, Deprecated, Removed, Forgotten}
use Rattle.lifecycle.specs.declared.entry.ApiEntry.{ApiEntry}

-- the number of a release
abbrev pub IsMinor : ℕ → Type 0
IsMinor k = k ≤ 999

-- a feature gate: an upper-case letter, then letters and digits, and neither of the words that set
-- all gates of a stage
pub record IsGateName (text : List ℕ) : Type 0 where
  pub word : BeginsUpper 63 text
  pub not_all_alpha : text ≢ codes "AllAlpha"
  pub not_all_beta : text ≢ codes "AllBeta"

-- the empty text for the core group, else labels joined by dots
pub record IsGroup (text : List ℕ) : Type 0 where
  pub short : length text ≤ 63
  pub labels : (text ≡ []) ⊎ IsDottedLabels text

-- a resource, or its singular
abbrev pub IsResource : List ℕ → Type 0
IsResource text = BeginsLower 63 IsLowerOrDigit text

abbrev pub IsKind : List ℕ → Type 0
IsKind text = BeginsUpper 63 text

-- the id of a field within its resource
abbrev pub IsFieldId : List ℕ → Type 0
IsFieldId text = BeginsLower 63 IsLetterOrDigit text

-- a default: a boolean, a whole number of 64 bits, or a text
abbrev pub IsScalar : FieldValue → Type 0
IsScalar (Bool b) = Unit {0}
IsScalar (Int z) = IsInt64 z
IsScalar (Text t) = IsUtf8 t
IsScalar (Texts ts) = ⊥

-- ---- entries: what each member holds has the member's shape

pub record IsShapedGate (x : GateEntry) : Type 0 where
  pub name : IsGateName x.name
  pub since : IsMinor x.since

abbrev pub IsShapedChange : ApiChange → Type 0
IsShapedChange (Introduced kind singular namespaced enabled) = IsKind kind × IsResource singular
IsShapedChange (Deprecated removal replacement) = IsMinor removal × IsVersion replacement
IsShapedChange Removed = Unit {0}
IsShapedChange Forgotten = Unit {0}

pub record IsShapedApi (x : ApiEntry) : Type 0 where
  pub group : IsGroup x.group
  pub version : IsVersion x.version
  pub resource : IsResource x.resource
  pub since : IsMinor x.since
  pub change : IsShapedChange x.change

pub record IsShapedField (x : Field) : Type 0 where
  pub group : IsGroup x.group
  pub resource : IsResource x.resource
  pub id : IsFieldId x.id
  pub since : IsMinor x.since
  pub gate : IfSome x.gate IsGateName

pub record IsShapedSpell (x : Spell) : Type 0 where
  pub group : IsGroup x.group
  pub resource : IsResource x.resource
  pub version : IsVersion x.version
  pub field : IsFieldId x.field
  pub since : IsMinor x.since
  pub path : IsPath x.path
  pub default : IfSome x.default IsScalar
