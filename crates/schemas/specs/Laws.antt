-- What follows from the rules, for those who build on accepted histories.
use Rattle.std.specs.Prelude.{ℕ, ◌≡◌, ◌↔◌, ◌+◌, ◌<◌, ◌≤◌, Bool, true, List, Some, Any, Contains, slice_get}
use Rattle.fields.specs.Fits.{AreOfSameFields, AreOneButOn, KnowsLess}
use Rattle.fields.specs.Table.{AreApart, AreLawful}
use Rattle.fields.specs.declared.field.Field.{Field}
use Rattle.fields.specs.declared.field.Spell.{Spell}
use Rattle.fields.specs.declared.table.FieldRow.{FieldRow}
use Rattle.gate_spec.specs.Gates.{RisesInDate}
use Rattle.lifecycle.specs.Entry.{GroupVersionResource, IsIntroduction, IsLive}
use Rattle.lifecycle.specs.Tables.{cutoff as apis_by, decodable}
use Rattle.lifecycle.specs.declared.entry.ApiEntry.{ApiEntry}
use Rattle.schemas.specs.declared.array.Array.{Array}
use Rattle.schemas.specs.Dated.{Dated}
use Rattle.schemas.specs.ApiRules.{name_of}
use Rattle.schemas.specs.FieldRules.{IsSpelledThroughout}
use Rattle.schemas.specs.Pairs.{IsSpelling, AreForOneVersion}
use Rattle.schemas.specs.Places.{Each}
use Rattle.schemas.specs.Rows.{AreRowsAt}
use Rattle.schemas.specs.SpellRules.{SpellsPairOnce}
use Rattle.schemas.specs.Rules.{IsAccepted, IsUnbroken, checks, IsFirstFault}

-- entries of one gate rise in date
abbrev pub GatesRise : Dated → Type 0
GatesRise h = RisesInDate h.gates

-- two entries of the list are of one version
pub record AreOfOneVersion (x y : ApiEntry) : Type 0 where
  pub group : x.group ≡ y.group
  pub version : x.version ≡ y.version
  pub resource : x.resource ≡ y.resource

-- a version has at most one introduction
abbrev pub IsIntroducedOnce : Dated → Type 0
IsIntroducedOnce h =
    (i j : ℕ) (x y : ApiEntry) → i < j → slice_get h.apis i ≡ Some x → slice_get h.apis j ≡ Some y
    → AreOfOneVersion x y → IsIntroduction x.change → ¬ IsIntroduction y.change

-- some version of the resource is live at the release
abbrev pub IsKindLive : Dated → List ℕ → List ℕ → ℕ → Type 0
IsKindLive h group resource e =
    (version : List ℕ) × IsLive h.apis (name_of group version resource) e

-- a kind that is live at a release is live at every later one
abbrev pub KindsStayLive : Dated → Type 0
KindsStayLive h =
    (group resource : List ℕ) (e f : ℕ) → e ≤ f → IsKindLive h group resource e
    → IsKindLive h group resource f

-- a history has at most one first fault
pub record AreOneFault (r r' : ℕ) (a a' : Array) (n n' : ℕ) : Type 0 where
  pub rule : r ≡ r'
  pub array : a ≡ a'
  pub number : n ≡ n'

abbrev pub HasOneFirstFault : Dated → Type 0
HasOneFirstFault h =
    (r r' : ℕ) (a a' : Array) (n n' : ℕ) → IsFirstFault h checks r a n
    → IsFirstFault h checks r' a' n' → AreOneFault r r' a a' n n'

-- accepted is a history of which no entry breaks a rule, and such a history has no first fault
pub record IsJoined (h : Dated) : Type 0 where
  pub whole : IsAccepted h ↔ IsUnbroken h checks
  pub excluded : (r : ℕ) (a : Array) (n : ℕ) → IsAccepted h → ¬ IsFirstFault h checks r a n

-- HR14 is kept, of fields and of spellings
pub record ArePairsKept (h : Dated) : Type 0 where
  pub of_fields : Each (IsSpelledThroughout h.apis h.spells) h.fields
  pub of_spellings : Each (SpellsPairOnce h.apis h.fields) h.spells

-- objects in the version are read at the release
abbrev pub IsDecodable : List ApiEntry → GroupVersionResource → ℕ → Type 0
IsDecodable apis name e = decodable (apis_by apis e) name ≡ true

-- a version that is live at a release is decodable from it up to three releases later
abbrev pub LiveStaysDecodable : List ApiEntry → Type 0
LiveStaysDecodable apis =
    (name : GroupVersionResource) (m e : ℕ) → m ≤ e → e ≤ m + 3 → IsLive apis name m
    → IsDecodable apis name e

-- of the spellings dated by the release, exactly one spells the field in the version
pub record IsSpelledOnceBy (e : ℕ) (spells : List Spell) (f : Field)
    (name : GroupVersionResource) : Type 0 where
  pub some : Any (λ s. IsSpelling f name s × (s.since ≤ e)) spells
  pub one : (i j : ℕ) (s t : Spell) → slice_get spells i ≡ Some s → slice_get spells j ≡ Some t
      → IsSpelling f name s → IsSpelling f name t → i ≡ j

-- in a version that is decodable at a release, each field of its resource that is there by then is
-- spelled once
abbrev pub DecodableIsSpelled : Dated → Type 0
DecodableIsSpelled h =
    (name : GroupVersionResource) (e i : ℕ) (f : Field) → IsDecodable h.apis name e
    → slice_get h.fields i ≡ Some f → f.group ≡ name.group → f.resource ≡ name.resource
    → f.since ≤ e → IsSpelledOnceBy e h.spells f name

-- two spellings of one version have paths apart
abbrev pub PathsAreApart : List Spell → Type 0
PathsAreApart spells =
    (i j : ℕ) (s t : Spell) → i < j → slice_get spells i ≡ Some s → slice_get spells j ≡ Some t
    → AreForOneVersion s t → AreApart s.path t.path

-- the rows of a version at a release are lawful
abbrev pub RowsAreLawful : Dated → Type 0
RowsAreLawful h =
    (is_on : List ℕ → Bool) (name : GroupVersionResource) (e : ℕ) (rows : List FieldRow)
    → AreRowsAt h is_on name e rows → AreLawful rows

-- the field is one of the version's resource, and there at the release
pub record IsThere (name : GroupVersionResource) (e : ℕ) (f : Field) : Type 0 where
  pub group : f.group ≡ name.group
  pub resource : f.resource ≡ name.resource
  pub dated : f.since ≤ e

-- in a version that is decodable at a release, each field of its resource that is there by then has
-- a row
abbrev pub EachFieldHasRow : Dated → Type 0
EachFieldHasRow h =
    (is_on : List ℕ → Bool) (name : GroupVersionResource) (e : ℕ) (f : Field) (rows : List FieldRow)
    → IsDecodable h.apis name e → AreRowsAt h is_on name e rows
    → Contains h.fields f → IsThere name e f → Any (λ row. row.id ≡ f.id) rows

-- two versions of a resource that are decodable at a release have rows of the same fields
abbrev pub RowsAreAlike : Dated → Type 0
RowsAreAlike h =
    (is_on also_on : List ℕ → Bool) (name other : GroupVersionResource) (e : ℕ)
    (rows others : List FieldRow)
    → name.group ≡ other.group → name.resource ≡ other.resource
    → IsDecodable h.apis name e → IsDecodable h.apis other e
    → AreRowsAt h is_on name e rows → AreRowsAt h also_on other e others
    → AreOfSameFields rows others

-- the rows are those of the others whose fields are there at the release, but for which of them are
-- on
pub record AreThoseThere (fields : List Field) (name : GroupVersionResource) (m : ℕ)
    (rows others : List FieldRow) : Type 0 where
  pub less : KnowsLess rows others
  pub exact : (row : FieldRow) → Contains others row
      → Any (λ f. IsThere name m f × (f.id ≡ row.id)) fields ↔ Any (λ r. AreOneButOn r row) rows

-- a version that is decodable at a release has, at each later one, the rows that it has there, but
-- for which of them are on, and beside them those of fields that come later
abbrev pub RowsAreKept : Dated → Type 0
RowsAreKept h =
    (is_on also_on : List ℕ → Bool) (name : GroupVersionResource) (m e : ℕ)
    (rows others : List FieldRow)
    → m ≤ e → IsDecodable h.apis name m → AreRowsAt h is_on name m rows
    → AreRowsAt h also_on name e others
    → AreThoseThere h.fields name m rows others
