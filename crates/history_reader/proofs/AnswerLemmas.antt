-- A text that means no history is refused for a named fault.
use Rattle.std.proofs.Common.{◌≡◌, ◌≢◌, ◌⊎◌, inl, inr, ℕ, ◌≤◌, ◌<◌, Bool, true, false, List, [], ◌∷◌, ◌++◌, length, Option, Some, None, IsSome, IsSomeAnd, IfSome, MatchOption, is_some, option_map, option_and_then, unwrap_or, codes, refl, sym, ap, subst, ◌∙◌, arith}
use Rattle.std.specs.Prelude.{if◌then◌else◌}
use Rattle.std.specs.List.{AllByRecursion, AllZip}
use Rattle.std.specs.Str.{IsUtf8}
use Rattle.std.proofs.lemmas.Str.{IsUtf8-from_is_utf8, is_utf8-from_IsUtf8}
use Rattle.toml.specs.Data.{Data, Members, get_member, as_str, as_bool}
use Rattle.toml.specs.Parse.{parse_document}
use Rattle.minor_version.specs.Release.{release_text}
use Rattle.fields.specs.declared.field.Field.{Field}
use Rattle.fields.specs.declared.field.Form.{Form}
use Rattle.fields.specs.declared.field.Form.TheVariants.{Same}
use Rattle.fields.specs.declared.field.Spell.{Spell}
use Rattle.gate_spec.specs.declared.entry.GateChange.{GateChange}
use Rattle.gate_spec.specs.declared.entry.GateChange.TheVariants.{Spec, Gone}
use Rattle.gate_spec.specs.declared.entry.GateEntry.{GateEntry}
use Rattle.lifecycle.specs.declared.entry.ApiChange.{ApiChange}
use Rattle.lifecycle.specs.declared.entry.ApiChange.TheVariants as api
use Rattle.lifecycle.specs.declared.entry.ApiEntry.{ApiEntry}
use Rattle.schemas.specs.Dated.{Dated}
use Rattle.schemas.specs.declared.array.Array.{Array}
use Rattle.schemas.proofs.DecisionLemmas.{at_most_decided, decided}
use Rattle.history_reader.specs.declared.demand.Shape.{Shape}
use Rattle.history_reader.specs.declared.demand.Shape.TheVariants.{Text}
use Rattle.history_reader.specs.declared.demand.TextShape.TheVariants as text
use Rattle.history_reader.specs.declared.read.HistoryFault.{HistoryFault}
use Rattle.history_reader.specs.declared.read.HistoryFault.TheVariants.{Memory, TooLong, NotToml, BadEntry}
use Rattle.history_reader.specs.Demands.{IsRelease, IsFormWord, Meets, HasShape, TextHasShape}
use Rattle.history_reader.specs.Meaning.{HoldsRelease, HoldsForm, IsGateChange, IsGateEntry, IsApiChange, IsApiEntry, IsFieldEntry, IsSpellEntry, IsHistory, ReadsAs, MeansHistory, IsRefused}
use Rattle.history_reader.specs.Names.{member_name}
use Rattle.history_reader.specs.Rows.{rows_of, gate_rows, spec_rows, removal_rows, api_rows, field_rows, spell_rows}
use Rattle.history_reader.specs.Tests.{Place, Test, Passes, IsFirstFault, MeetsRows, document_tests, table_tests}
use Rattle.history_reader.specs.Tree.{IsReleaseAt, text_at, flag_at, tables_at}
use Rattle.history_reader.specs.Words.{form_word, path_in, scalar_in}
use Rattle.history_reader.proofs.ShapeLemmas.{event_met}
use Rattle.history_reader.proofs.TableLemmas.{document_met}
use Rattle.history_reader.proofs.TestLemmas.{fault-here, fault-back, passed-front}

-- ---- what stands at a member that holds what it must

abbrev Held : {A : Type 0} → (Data → Option A) → (A → Type 0) → Option Data → Type 0
Held f P o = IsSomeAnd o (λ d. IsSomeAnd (f d) P)

some_held : {A : Type 0} (P : A → Type 0) (o : Option A) → IsSomeAnd o P → (x : A) × (o ≡ Some x) × P x
some_held P None h = absurd h
some_held P (Some x) h = (x, refl, h)

held : {A : Type 0} (f : Data → Option A) (P : A → Type 0) (o : Option Data) → Held f P o → (x : A) × (option_and_then f o ≡ Some x) × P x
held f P None h = absurd h
held f P (Some d) h = some_held P (f d) h

some_there : {A : Type 0} (o : Option A) → IsSome o → (x : A) × (o ≡ Some x)
some_there None h = absurd (let e : false ≡ true = h in cc)
some_there (Some x) h = (x, refl)

flag_held : (o : Option Data) → IsSomeAnd o (HasShape Shape.Flag) → (b : Bool) × (option_and_then as_bool o ≡ Some b)
flag_held None h = absurd h
flag_held (Some d) h = some_there (as_bool d) h

only_true : (o : Option Data) → IsSomeAnd o (HasShape Shape.OnlyTrue) → option_and_then as_bool o ≡ Some true
only_true None h = absurd h
only_true (Some d) h = h

release_held : (name : List ℕ) (t : Members) → IsSomeAnd (get_member name t) (HasShape (Text text.Release)) → (k : ℕ) × IsReleaseAt name t k
release_held name t h =
    let found = held as_str IsRelease (get_member name t) h in
    (found.2.0, record { text = found.1 ∙ ap Some found.2.2; bound = found.2.1 })

optional_release : (name : List ℕ) (t : Members) (o : Option Data) → get_member name t ≡ o → IfSome o (HasShape (Text text.Release)) → (r : Option ℕ) × HoldsRelease name t r
optional_release name t None is h = (None, is)
optional_release name t (Some d) is h =
    let P : Option Data → Type 0 = λ o. IsSomeAnd o (HasShape (Text text.Release)) in
    let there = release_held name t (subst P (sym is) h) in
    (Some there.0, there.1)

word_form : (o : Option (List ℕ)) → IsSomeAnd o IsFormWord → (f : Form) × MatchOption o (f ≡ Same) (λ w. w ≡ form_word f)
word_form None h = absurd h
word_form (Some w) h = h

form_held : (o : Option Data) → IfSome o (HasShape (Text text.FormWord)) → (f : Form) × MatchOption (option_and_then as_str o) (f ≡ Same) (λ w. w ≡ form_word f)
form_held None h = (Same, refl)
form_held (Some d) h = word_form (as_str d) h

-- ---- an entry of a table that meets its rows

gate_change : (t : Members) (o : Option Data) → get_member (codes "removed") t ≡ o → MeetsRows (if is_some o then removal_rows else spec_rows) t → (c : GateChange) × IsGateChange t c
gate_change t None is met =
    let stage = held as_str (TextHasShape text.StageWord) (get_member (codes "stage") t) met.0 in
    let default = flag_held (get_member (codes "default") t) met.1.0 in
    (Spec stage.2.0 default.0 (unwrap_or (flag_at (codes "locked") t) false), (is, stage.1 ∙ ap Some stage.2.1, default.1, refl))
gate_change t (Some d) is met = (Gone, only_true (get_member (codes "removed") t) met.0)

gate_of : (t : Members) → MeetsRows (gate_rows t) t → (x : GateEntry) × IsGateEntry t x
gate_of t met =
    let name = held as_str (TextHasShape text.GateName) (get_member (codes "name") t) met.0 in
    let since = release_held (codes "since") t met.1.0 in
    let change = gate_change t (get_member (codes "removed") t) refl met.1.1 in
    (record { name = name.0; since = since.0; change = change.0 }, record { name = name.1; since = since.1; change = change.1 })

api_change : (t : Members) (event : List ℕ) → text_at (codes "event") t ≡ Some event → TextHasShape text.EventWord event → MeetsRows (api_rows t) t → (c : ApiChange) × IsApiChange t c
api_change t event is (inl e) met =
    let introduced = is ∙ ap Some e in
    let brought = event_met t (codes "introduced") introduced met in
    let kind = held as_str (TextHasShape text.KindName) (get_member (codes "kind") t) brought.0 in
    let singular = held as_str (TextHasShape text.ResourceName) (get_member (codes "singular") t) brought.1.0 in
    let namespaced = flag_held (get_member (codes "namespaced") t) brought.1.1.0 in
    let enabled = flag_held (get_member (codes "enabled") t) brought.1.1.1.0 in
    (api.Introduced kind.0 singular.0 namespaced.0 enabled.0, (introduced, kind.1, singular.1, namespaced.1, enabled.1))
api_change t event is (inr (inl e)) met =
    let deprecated = is ∙ ap Some e in
    let brought = event_met t (codes "deprecated") deprecated met in
    let removal = release_held (codes "removal") t brought.0 in
    let replacement = held as_str (TextHasShape text.VersionWord) (get_member (codes "replacement") t) brought.1.0 in
    (api.Deprecated removal.0 replacement.0, (deprecated, removal.1, replacement.1))
api_change t event is (inr (inr (inl e))) met = (api.Removed, is ∙ ap Some e)
api_change t event is (inr (inr (inr e))) met = (api.Forgotten, is ∙ ap Some e)

api_of : (t : Members) → MeetsRows (api_rows t) t → (x : ApiEntry) × IsApiEntry t x
api_of t met =
    let group = held as_str (TextHasShape text.GroupName) (get_member (codes "group") t) met.0 in
    let version = held as_str (TextHasShape text.VersionWord) (get_member (codes "version") t) met.1.0 in
    let resource = held as_str (TextHasShape text.ResourceName) (get_member (codes "resource") t) met.1.1.0 in
    let since = release_held (codes "since") t met.1.1.1.0 in
    let event = held as_str (TextHasShape text.EventWord) (get_member (codes "event") t) met.1.1.1.1.0 in
    let change = api_change t event.0 event.1 event.2 met in (
      record { group = group.0; version = version.0; resource = resource.0; since = since.0; change = change.0 },
      record { group = group.1; version = version.1; resource = resource.1; since = since.1; change = change.1 },
    )

field_of : (t : Members) → MeetsRows field_rows t → (x : Field) × IsFieldEntry t x
field_of t met =
    let group = held as_str (TextHasShape text.GroupName) (get_member (codes "group") t) met.0 in
    let resource = held as_str (TextHasShape text.ResourceName) (get_member (codes "resource") t) met.1.0 in
    let id = held as_str (TextHasShape text.FieldId) (get_member (codes "id") t) met.1.1.0 in
    let since = release_held (codes "since") t met.1.1.1.0 in
    let ty = held as_str (TextHasShape text.TypeWord) (get_member (codes "type") t) met.1.1.1.1.0 in (
      record { group = group.0; resource = resource.0; id = id.0; since = since.0; ty = ty.2.0; required = unwrap_or (flag_at (codes "required") t) false; gate = text_at (codes "gate") t },
      record { group = group.1; resource = resource.1; id = id.1; since = since.1; ty = ty.1 ∙ ap Some ty.2.1; required = refl; gate = refl },
    )

spell_of : (t : Members) → MeetsRows spell_rows t → (x : Spell) × IsSpellEntry t x
spell_of t met =
    let group = held as_str (TextHasShape text.GroupName) (get_member (codes "group") t) met.0 in
    let resource = held as_str (TextHasShape text.ResourceName) (get_member (codes "resource") t) met.1.0 in
    let version = held as_str (TextHasShape text.VersionWord) (get_member (codes "version") t) met.1.1.0 in
    let field = held as_str (TextHasShape text.FieldId) (get_member (codes "field") t) met.1.1.1.0 in
    let since = release_held (codes "since") t met.1.1.1.1.0 in
    let path = held as_str (TextHasShape text.PathText) (get_member (codes "path") t) met.1.1.1.1.1.0 in
    let form = form_held (get_member (codes "form") t) met.1.1.1.1.1.1.0 in (
      record { group = group.0; resource = resource.0; version = version.0; field = field.0; since = since.0; path = path_in path.0; form = form.0; default = option_and_then scalar_in (get_member (codes "default") t) },
      record { group = group.1; resource = resource.1; version = version.1; field = field.1; since = since.1; path = ap (λ o. option_map path_in o) path.1; form = form.1; default = refl },
    )

list_of : {X : Type 0} (array : Array) (P : Members → X → Type 0) → ((t : Members) → MeetsRows (rows_of array t) t → (x : X) × P t x)
    → (ts : List Members) → AllByRecursion (λ t. MeetsRows (rows_of array t) t) ts → (xs : List X) × AllZip P ts xs
list_of array P one [] met = ([], tt)
list_of array P one (t ∷ ts) met =
    let head = one t met.0 in
    let tail = list_of array P one ts met.1 in
    (head.0 ∷ tail.0, (head.1, tail.1))

-- ---- a tree

history_of : (ms : Members) → AllByRecursion Passes (document_tests ms) → (h : Dated) × IsHistory ms h
history_of ms passed =
    let top = passed-front (table_tests Array.Top 0 ms) _ passed in
    let met = document_met ms passed in
    let first = optional_release (codes "first") ms (get_member (codes "first") ms) refl top.0 in
    let last = optional_release (codes "last") ms (get_member (codes "last") ms) refl top.1.0 in
    let gates = list_of Array.Gate IsGateEntry gate_of (tables_at (codes "gate") ms) (met Array.Gate tt) in
    let apis = list_of Array.Api IsApiEntry api_of (tables_at (codes "api") ms) (met Array.Api tt) in
    let fields = list_of Array.Field IsFieldEntry field_of (tables_at (codes "field") ms) (met Array.Field tt) in
    let spells = list_of Array.Spell IsSpellEntry spell_of (tables_at (codes "spell") ms) (met Array.Spell tt) in (
      record { first = first.0; last = last.0; gates = gates.0; apis = apis.0; fields = fields.0; spells = spells.0 },
      record { first = first.1; last = last.1; gates = gates.1; apis = apis.1; fields = fields.1; spells = spells.1 },
    )

-- tests of which none is the first that fails pass
pass_or_fail : (tests : List Test) → ((p : Place) → ¬ IsFirstFault tests p) → ¬ ¬ AllByRecursion Passes tests
pass_or_fail [] none deny = deny tt
pass_or_fail (t ∷ ts) none deny =
    let here : ¬ ¬ Passes t = λ fails. none t.place (fault-here t ts t.place fails refl) in
    here (λ passes. pass_or_fail ts (λ p fault. none p (fault-back (t ∷ []) ts p (passes, tt) fault)) (λ rest. deny (passes, rest)))

parsed : (o : Option Members) → (o ≡ None) ⊎ ((ms : Members) × (o ≡ Some ms))
parsed None = inl refl
parsed (Some ms) = inr (ms, refl)

-- the bytes are a text, or aren't
utf8_or_not : (text : List ℕ) → IsUtf8 text ⊎ ¬ IsUtf8 text
utf8_or_not text = decided _ (IsUtf8-from_is_utf8 text, is_utf8-from_IsUtf8 text)

-- the bytes read as a tree, or don't
read_or_not : (text : List ℕ) → ((ms : Members) × ReadsAs text ms) ⊎ ((ms : Members) → ¬ ReadsAs text ms)
read_or_not text = elim (utf8_or_not text) [
  | inl valid ↦ elim (parsed (parse_document text)) [
    | inl none ↦ inr (λ ms (reads : ReadsAs text ms). let e : None ≡ Some ms = sym none ∙ reads.parsed in cc)
    | inr some ↦ inl (some.0, record { utf8 = valid; parsed = some.1 })
  ]
  | inr invalid ↦ inr (λ ms (reads : ReadsAs text ms). invalid reads.utf8)
]

pub some_answer : (text : List ℕ) → ((h : Dated) → ¬ MeansHistory text h) → ¬ ((fault : HistoryFault) → fault ≢ Memory → ¬ IsRefused text fault)
some_answer text none free = elim (at_most_decided (length text) 1048576) [
  | inr long ↦ free TooLong (λ e. cc) (let more : 1048576 < length text = omega arith in more)
  | inl short ↦ elim (read_or_not text) [
    | inr unread ↦ free NotToml (λ e. cc) (short, unread)
    | inl read ↦ pass_or_fail (document_tests read.0)
        (λ p fault. free (BadEntry p.array p.index p.member) (λ e. cc) (record { short = short; tree = read.0; reads = read.1; holds = fault }))
        (λ passed. let is = history_of read.0 passed in none is.0 (record { short = short; tree = read.0; reads = read.1; holds = record { passed = passed; history = is.1 } }))
  ]
]
