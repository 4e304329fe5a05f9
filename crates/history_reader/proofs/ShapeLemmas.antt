-- What a text means has the shapes that the type of histories keeps.
use Rattle.std.proofs.Common.{◌≡◌, ℕ, List, [], ◌∷◌, Option, Some, None, IsSomeAnd, IfSome, option_map, option_and_then, codes, refl, sym, subst}
use Rattle.std.specs.List.{AllByRecursion, AllZip}
use Rattle.toml.specs.Data.{Data, Members, get_member, as_str}
use Rattle.fields.specs.Table.{IsPath}
use Rattle.fields.specs.declared.field.Field.{Field}
use Rattle.fields.specs.declared.field.Spell.{Spell}
use Rattle.gate_spec.specs.declared.entry.GateEntry.{GateEntry}
use Rattle.lifecycle.specs.Version.{IsVersion}
use Rattle.lifecycle.specs.declared.entry.ApiChange.{ApiChange}
use Rattle.lifecycle.specs.declared.entry.ApiChange.TheVariants as api
use Rattle.lifecycle.specs.declared.entry.ApiEntry.{ApiEntry}
use Rattle.schemas.specs.Dated.{Dated, IsShaped}
use Rattle.schemas.specs.Shapes.{IsMinor, IsGateName, IsGroup, IsResource, IsKind, IsFieldId, IsScalar, IsShapedGate, IsShapedChange, IsShapedApi, IsShapedField, IsShapedSpell}
use Rattle.schemas.specs.declared.array.Array.{Array}
use Rattle.history_reader.specs.Demands.{Meets, IsPathText}
use Rattle.history_reader.specs.Meaning.{HoldsRelease, IsGateEntry, IsApiChange, IsApiEntry, IsFieldEntry, IsSpellEntry, MeansHistory}
use Rattle.history_reader.specs.Names.{member_name}
use Rattle.history_reader.specs.Rows.{rows_of, gate_rows, api_rows, event_rows, field_rows, spell_rows}
use Rattle.history_reader.specs.Tests.{MeetsRows}
use Rattle.history_reader.specs.Tree.{text_at}
use Rattle.history_reader.specs.Words.{path_in, scalar_in}
use Rattle.history_reader.proofs.DemandLemmas.{shaped_text, shaped_optional}
use Rattle.history_reader.proofs.TableLemmas.{document_met}

-- entries of tables that meet their rows
shaped_list : {X : Type 0} (array : Array) (P : Members → X → Type 0) (S : X → Type 0) → ((t : Members) (x : X) → MeetsRows (rows_of array t) t → P t x → S x)
    → (ts : List Members) (xs : List X) → AllByRecursion (λ t. MeetsRows (rows_of array t) t) ts → AllZip P ts xs → AllByRecursion S xs
shaped_list array P S one [] [] met are = tt
shaped_list array P S one [] (x ∷ xs) met are = absurd are
shaped_list array P S one (t ∷ ts) [] met are = tt
shaped_list array P S one (t ∷ ts) (x ∷ xs) met are = (one t x met.0 are.0, shaped_list array P S one ts xs met.1 are.1)

shaped_gate : (t : Members) (x : GateEntry) → MeetsRows (gate_rows t) t → IsGateEntry t x → IsShapedGate x
shaped_gate t x met is = record {
  name = shaped_text IsGateName (get_member (codes "name") t) x.name x.name met.0 is.name refl;
  since = is.since.bound;
}

-- the rows of what the event brings
pub event_met : (t : Members) (event : List ℕ) → text_at (codes "event") t ≡ Some event → MeetsRows (api_rows t) t → MeetsRows (event_rows (Some event)) t
event_met t event is met = subst (λ (o : Option (List ℕ)). MeetsRows (event_rows o) t) is met.1.1.1.1.1

shaped_change : (t : Members) (x : ApiChange) → MeetsRows (api_rows t) t → IsApiChange t x → IsShapedChange x
shaped_change t (api.Introduced kind singular namespaced enabled) met is =
    let brought = event_met t (codes "introduced") is.0 met in
    (shaped_text IsKind (get_member (codes "kind") t) kind kind brought.0 is.1 refl, shaped_text IsResource (get_member (codes "singular") t) singular singular brought.1.0 is.2 refl)
shaped_change t (api.Deprecated removal replacement) met is =
    let brought = event_met t (codes "deprecated") is.0 met in
    (is.1.bound, shaped_text IsVersion (get_member (codes "replacement") t) replacement replacement brought.1.0 is.2 refl)
shaped_change t api.Removed met is = tt
shaped_change t api.Forgotten met is = tt

shaped_api : (t : Members) (x : ApiEntry) → MeetsRows (api_rows t) t → IsApiEntry t x → IsShapedApi x
shaped_api t x met is = record {
  group = shaped_text IsGroup (get_member (codes "group") t) x.group x.group met.0 is.group refl;
  version = shaped_text IsVersion (get_member (codes "version") t) x.version x.version met.1.0 is.version refl;
  resource = shaped_text IsResource (get_member (codes "resource") t) x.resource x.resource met.1.1.0 is.resource refl;
  since = is.since.bound;
  change = shaped_change t x.change met is.change;
}

shaped_field : (t : Members) (x : Field) → MeetsRows field_rows t → IsFieldEntry t x → IsShapedField x
shaped_field t x met is = record {
  group = shaped_text IsGroup (get_member (codes "group") t) x.group x.group met.0 is.group refl;
  resource = shaped_text IsResource (get_member (codes "resource") t) x.resource x.resource met.1.0 is.resource refl;
  id = shaped_text IsFieldId (get_member (codes "id") t) x.id x.id met.1.1.0 is.id refl;
  since = is.since.bound;
  gate = shaped_optional as_str IsGateName (get_member (codes "gate") t) x.gate met.1.1.1.1.1.1.0 is.gate;
}

told_path : (o : Option (List ℕ)) (path : List (List ℕ)) → IsSomeAnd o IsPathText → option_map path_in o ≡ Some path → IsPath path
told_path None path shape is = absurd shape
told_path (Some text) path shape is = let same : path_in text ≡ path = cc in subst IsPath same shape

shaped_path : (o : Option Data) (path : List (List ℕ)) → IsSomeAnd o (λ d. IsSomeAnd (as_str d) IsPathText) → option_map path_in (option_and_then as_str o) ≡ Some path → IsPath path
shaped_path None path shape is = absurd shape
shaped_path (Some d) path shape is = told_path (as_str d) path shape is

shaped_spell : (t : Members) (x : Spell) → MeetsRows spell_rows t → IsSpellEntry t x → IsShapedSpell x
shaped_spell t x met is = record {
  group = shaped_text IsGroup (get_member (codes "group") t) x.group x.group met.0 is.group refl;
  resource = shaped_text IsResource (get_member (codes "resource") t) x.resource x.resource met.1.0 is.resource refl;
  version = shaped_text IsVersion (get_member (codes "version") t) x.version x.version met.1.1.0 is.version refl;
  field = shaped_text IsFieldId (get_member (codes "field") t) x.field x.field met.1.1.1.0 is.field refl;
  since = is.since.bound;
  path = shaped_path (get_member (codes "path") t) x.path met.1.1.1.1.1.0 is.path;
  default = shaped_optional scalar_in IsScalar (get_member (codes "default") t) x.default met.1.1.1.1.1.1.1.0 is.default;
}

held_minor : (name : List ℕ) (ms : Members) (release : Option ℕ) → HoldsRelease name ms release → IfSome release IsMinor
held_minor name ms None held = tt
held_minor name ms (Some k) held = held.bound

pub meaning_is_shaped : (text : List ℕ) (h : Dated) → MeansHistory text h → IsShaped h
meaning_is_shaped text h means =
    let met = document_met means.tree means.holds.passed in
    let is = means.holds.history in
    record {
      first = held_minor (codes "first") means.tree h.first is.first;
      last = held_minor (codes "last") means.tree h.last is.last;
      gates = shaped_list Array.Gate IsGateEntry IsShapedGate shaped_gate _ h.gates (met Array.Gate tt) is.gates;
      apis = shaped_list Array.Api IsApiEntry IsShapedApi shaped_api _ h.apis (met Array.Api tt) is.apis;
      fields = shaped_list Array.Field IsFieldEntry IsShapedField shaped_field _ h.fields (met Array.Field tt) is.fields;
      spells = shaped_list Array.Spell IsSpellEntry IsShapedSpell shaped_spell _ h.spells (met Array.Spell tt) is.spells;
    }
