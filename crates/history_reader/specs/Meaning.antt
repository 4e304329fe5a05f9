-- What a history document means.
use Rattle.std.specs.Prelude.{ℕ, ◌≡◌, ◌<◌, ◌≤◌, true, false, List, length, Some, None, MatchOption, unwrap_or, option_and_then, option_map, codes}
use Rattle.std.specs.declared.option.Option.{Option}
use Rattle.std.specs.List.{AllByRecursion, AllZip}
use Rattle.std.specs.Str.{IsUtf8}
use Rattle.toml.specs.Data.{Members, get_member}
use Rattle.toml.specs.Parse.{parse_document}
use Rattle.fields.specs.declared.field.Field.{Field}
use Rattle.fields.specs.declared.field.Form.{Form}
use Rattle.fields.specs.declared.field.Form.TheVariants.{Same}
use Rattle.fields.specs.declared.field.Spell.{Spell}
use Rattle.gate_spec.specs.Stages.{stage_word}
use Rattle.gate_spec.specs.declared.entry.GateChange.{GateChange}
use Rattle.gate_spec.specs.declared.entry.GateChange.TheVariants.{Spec, Gone}
use Rattle.gate_spec.specs.declared.entry.GateEntry.{GateEntry}
use Rattle.lifecycle.specs.declared.entry.ApiChange.{ApiChange}
use Rattle.lifecycle.specs.declared.entry.ApiChange.TheVariants.{Introduced, Deprecated, Removed, Forgotten}
use Rattle.lifecycle.specs.declared.entry.ApiEntry.{ApiEntry}
use Rattle.schemas.specs.Dated.{Dated}
use Rattle.history_reader.specs.declared.read.HistoryFault.{HistoryFault}
use Rattle.history_reader.specs.declared.read.HistoryFault.TheVariants.{Memory, TooLong, NotToml, BadEntry}
use Rattle.history_reader.specs.Tree.{IsReleaseAt, text_at, flag_at, tables_at}
use Rattle.history_reader.specs.Words.{type_word, form_word, path_in, scalar_in}
use Rattle.history_reader.specs.Tests.{Passes, IsFirstFault, document_tests}

-- a text longer than this many bytes is no history document
abbrev pub longest_document : ℕ
longest_document = 1048576

-- the member holds the text of the release; without a release it isn't there
abbrev pub HoldsRelease : List ℕ → Members → Option ℕ → Type 0
HoldsRelease name ms release = MatchOption release (get_member name ms ≡ None) (IsReleaseAt name ms)

-- the table tells this change of a gate; `locked` that is missing is false
abbrev pub IsGateChange : Members → GateChange → Type 0
IsGateChange ms (Spec stage default locked) =
    (get_member (codes "removed") ms ≡ None)
    × (text_at (codes "stage") ms ≡ Some (stage_word stage))
    × (flag_at (codes "default") ms ≡ Some default)
    × (unwrap_or (flag_at (codes "locked") ms) false ≡ locked)
IsGateChange ms Gone = flag_at (codes "removed") ms ≡ Some true

-- the table is this entry
pub record IsGateEntry (ms : Members) (x : GateEntry) : Type 0 where
  pub name : text_at (codes "name") ms ≡ Some x.name
  pub since : IsReleaseAt (codes "since") ms x.since
  pub change : IsGateChange ms x.change

-- the table tells this change of an API version
abbrev pub IsApiChange : Members → ApiChange → Type 0
IsApiChange ms (Introduced kind singular namespaced enabled) =
    (text_at (codes "event") ms ≡ Some (codes "introduced"))
    × (text_at (codes "kind") ms ≡ Some kind)
    × (text_at (codes "singular") ms ≡ Some singular)
    × (flag_at (codes "namespaced") ms ≡ Some namespaced)
    × (flag_at (codes "enabled") ms ≡ Some enabled)
IsApiChange ms (Deprecated removal replacement) =
    (text_at (codes "event") ms ≡ Some (codes "deprecated"))
    × IsReleaseAt (codes "removal") ms removal
    × (text_at (codes "replacement") ms ≡ Some replacement)
IsApiChange ms Removed = text_at (codes "event") ms ≡ Some (codes "removed")
IsApiChange ms Forgotten = text_at (codes "event") ms ≡ Some (codes "forgotten")

-- the table is this entry
pub record IsApiEntry (ms : Members) (x : ApiEntry) : Type 0 where
  pub group : text_at (codes "group") ms ≡ Some x.group
  pub version : text_at (codes "version") ms ≡ Some x.version
  pub resource : text_at (codes "resource") ms ≡ Some x.resource
  pub since : IsReleaseAt (codes "since") ms x.since
  pub change : IsApiChange ms x.change

-- the table is this field; `required` that is missing is false
pub record IsFieldEntry (ms : Members) (x : Field) : Type 0 where
  pub group : text_at (codes "group") ms ≡ Some x.group
  pub resource : text_at (codes "resource") ms ≡ Some x.resource
  pub id : text_at (codes "id") ms ≡ Some x.id
  pub since : IsReleaseAt (codes "since") ms x.since
  pub ty : text_at (codes "type") ms ≡ Some (type_word x.ty)
  pub required : unwrap_or (flag_at (codes "required") ms) false ≡ x.required
  pub gate : text_at (codes "gate") ms ≡ x.gate

-- the member holds the form's word; where it is missing the form is `Same`
abbrev pub HoldsForm : List ℕ → Members → Form → Type 0
HoldsForm name ms form = MatchOption (text_at name ms) (form ≡ Same) (λ word. word ≡ form_word form)

-- the table is this spelling
pub record IsSpellEntry (ms : Members) (x : Spell) : Type 0 where
  pub group : text_at (codes "group") ms ≡ Some x.group
  pub resource : text_at (codes "resource") ms ≡ Some x.resource
  pub version : text_at (codes "version") ms ≡ Some x.version
  pub field : text_at (codes "field") ms ≡ Some x.field
  pub since : IsReleaseAt (codes "since") ms x.since
  pub path : option_map path_in (text_at (codes "path") ms) ≡ Some x.path
  pub form : HoldsForm (codes "form") ms x.form
  pub default : option_and_then scalar_in (get_member (codes "default") ms) ≡ x.default

-- the tree is this history: the tables of an array are its entries, one for one, in order
pub record IsHistory (ms : Members) (h : Dated) : Type 0 where
  pub first : HoldsRelease (codes "first") ms h.first
  pub last : HoldsRelease (codes "last") ms h.last
  pub gates : AllZip IsGateEntry (tables_at (codes "gate") ms) h.gates
  pub apis : AllZip IsApiEntry (tables_at (codes "api") ms) h.apis
  pub fields : AllZip IsFieldEntry (tables_at (codes "field") ms) h.fields
  pub spells : AllZip IsSpellEntry (tables_at (codes "spell") ms) h.spells

-- the bytes are a text that TOML reads as this tree
pub record ReadsAs (text : List ℕ) (ms : Members) : Type 0 where
  pub utf8 : IsUtf8 text
  pub parsed : parse_document text ≡ Some ms

-- the tree passes its tests and is this history
pub record MeansTree (ms : Members) (h : Dated) : Type 0 where
  pub passed : AllByRecursion Passes (document_tests ms)
  pub history : IsHistory ms h

-- the bytes are short enough, and read as a tree of which P holds
pub record IsDocument (text : List ℕ) (P : Members → Type 0) : Type 0 where
  pub short : length text ≤ longest_document
  pub tree : Members
  pub reads : ReadsAs text tree
  pub holds : P tree

-- the bytes are a history document of this history
abbrev pub MeansHistory : List ℕ → Dated → Type 0
MeansHistory text h = IsDocument text (λ ms. MeansTree ms h)

-- why the bytes are no history document; want of memory is free
abbrev pub IsRefused : List ℕ → HistoryFault → Type 0
IsRefused text Memory = Unit {0}
IsRefused text TooLong = longest_document < length text
IsRefused text NotToml = (length text ≤ longest_document) × ((ms : Members) → ¬ ReadsAs text ms)
IsRefused text (BadEntry array index name) =
    IsDocument text (λ ms.
    IsFirstFault (document_tests ms) (record { array = array; index = index; member = name }))
