-- A text has one answer.
use Rattle.std.proofs.Common.{◌≡◌, ◌≢◌, ℕ, ◌≤◌, Bool, true, List, [], ◌∷◌, ◌++◌, length, get_or, drop, codes, Option, Some, None, option_and_then, refl, sym, ap, subst, ◌∙◌, arith}
use Rattle.std.specs.List.{AllByRecursion, AllZip}
use Rattle.std.proofs.lemmas.Fmt.{decimal_injective}
use Rattle.toml.specs.Data.{Data, Members, as_str, as_bool}
use Rattle.minor_version.specs.Release.{release_text}
use Rattle.fields.specs.declared.field.Field.{Field}
use Rattle.fields.specs.declared.field.Form.{Form}
use Rattle.fields.specs.declared.field.Form.TheVariants as form
use Rattle.fields.specs.declared.field.Spell.{Spell}
use Rattle.fields.specs.declared.value.FieldType.{FieldType}
use Rattle.fields.specs.declared.value.FieldType.TheVariants as type
use Rattle.gate_spec.specs.Stages.{stage_word}
use Rattle.gate_spec.specs.declared.entry.Stage.{Stage}
use Rattle.gate_spec.specs.declared.entry.Stage.TheVariants as stage
use Rattle.gate_spec.specs.declared.entry.GateChange.{GateChange}
use Rattle.gate_spec.specs.declared.entry.GateChange.TheVariants.{Spec, Gone}
use Rattle.gate_spec.specs.declared.entry.GateEntry.{GateEntry}
use Rattle.lifecycle.specs.declared.entry.ApiChange.{ApiChange}
use Rattle.lifecycle.specs.declared.entry.ApiChange.TheVariants as api
use Rattle.lifecycle.specs.declared.entry.ApiEntry.{ApiEntry}
use Rattle.schemas.specs.Dated.{Dated}
use Rattle.schemas.specs.declared.array.Array.{Array}
use Rattle.history_reader.specs.declared.read.HistoryFault.{HistoryFault}
use Rattle.history_reader.specs.declared.read.HistoryFault.TheVariants.{Memory, TooLong, NotToml, BadEntry}
use Rattle.history_reader.specs.Tree.{IsReleaseAt}
use Rattle.history_reader.specs.Words.{type_word, form_word}
use Rattle.std.specs.Prelude.{MatchOption}
use Rattle.history_reader.specs.Tests.{Place, Test, Passes, IsFirstFault, document_tests}
use Rattle.history_reader.specs.Meaning.{IsGateChange, IsGateEntry, IsApiChange, IsApiEntry, IsFieldEntry, IsSpellEntry, HoldsRelease, IsHistory, ReadsAs, MeansTree, MeansHistory, IsRefused}

some_injective : {A : Type 0} (o : Option A) (x y : A) → o ≡ Some x → o ≡ Some y → x ≡ y
some_injective o x y a b = cc

-- what isn't there holds nothing
missing : {A B : Type 0} (f : Data → Option A) (o : Option Data) (x : A) → option_and_then f o ≡ Some x → o ≡ None → B
missing f None x a b = cc
missing f (Some d) x a b = cc

one_release : (name : List ℕ) (ms : Members) (k l : ℕ) → IsReleaseAt name ms k → IsReleaseAt name ms l → k ≡ l
one_release name ms k l a b =
    let small : k ≤ 999 = a.bound in
    let little : l ≤ 999 = b.bound in
    decimal_injective k l (omega arith) (omega arith) (ap (drop 2) (some_injective _ (release_text k) (release_text l) a.text b.text))

one_optional : (name : List ℕ) (ms : Members) (r s : Option ℕ) → HoldsRelease name ms r → HoldsRelease name ms s → r ≡ s
one_optional name ms None None a b = refl
one_optional name ms None (Some l) a b = missing as_str _ (release_text l) b.text a
one_optional name ms (Some k) None a b = missing as_str _ (release_text k) a.text b
one_optional name ms (Some k) (Some l) a b = ap Some (one_release name ms k l a b)

apart : {A : Type 0} (xs ys : List ℕ) → get_or xs 0 0 ≢ get_or ys 0 0 → xs ≡ ys → A
apart xs ys other e = absurd (other (ap (λ (zs : List ℕ). get_or zs 0 0) e))

shorter : {A : Type 0} (xs ys : List ℕ) → length xs ≢ length ys → xs ≡ ys → A
shorter xs ys other e = absurd (other (ap (λ (zs : List ℕ). length zs) e))

one_stage : (s t : Stage) → stage_word s ≡ stage_word t → s ≡ t
one_stage stage.Alpha stage.Alpha e = refl
one_stage stage.Alpha stage.Beta e = apart _ _ (omega arith) e
one_stage stage.Alpha stage.Ga e = cc
one_stage stage.Alpha stage.Deprecated e = apart _ _ (omega arith) e
one_stage stage.Beta stage.Alpha e = apart _ _ (omega arith) e
one_stage stage.Beta stage.Beta e = refl
one_stage stage.Beta stage.Ga e = cc
one_stage stage.Beta stage.Deprecated e = apart _ _ (omega arith) e
one_stage stage.Ga stage.Alpha e = cc
one_stage stage.Ga stage.Beta e = cc
one_stage stage.Ga stage.Ga e = refl
one_stage stage.Ga stage.Deprecated e = cc
one_stage stage.Deprecated stage.Alpha e = apart _ _ (omega arith) e
one_stage stage.Deprecated stage.Beta e = apart _ _ (omega arith) e
one_stage stage.Deprecated stage.Ga e = cc
one_stage stage.Deprecated stage.Deprecated e = refl

same_spec : (s t : Stage) (d e l k : Bool) → s ≡ t → d ≡ e → l ≡ k → Spec s d l ≡ Spec t e k
same_spec s t d e l k a b c = cc

one_gate_change : (ms : Members) (x y : GateChange) → IsGateChange ms x → IsGateChange ms y → x ≡ y
one_gate_change ms (Spec s d l) (Spec t e k) a b =
    same_spec s t d e l k (one_stage s t (some_injective _ (stage_word s) (stage_word t) a.1 b.1)) (some_injective _ d e a.2 b.2) (sym a.3 ∙ b.3)
one_gate_change ms (Spec s d l) Gone a b = missing as_bool _ true b a.0
one_gate_change ms Gone (Spec t e k) a b = missing as_bool _ true a b.0
one_gate_change ms Gone Gone a b = refl

one_gate : (ms : Members) (x y : GateEntry) → IsGateEntry ms x → IsGateEntry ms y → x ≡ y
one_gate ms x y a b =
    let name : x.name ≡ y.name = some_injective _ x.name y.name a.name b.name in
    let since : x.since ≡ y.since = one_release (codes "since") ms x.since y.since a.since b.since in
    let change : x.change ≡ y.change = one_gate_change ms x.change y.change a.change b.change in
    λ i. record { name = name i; since = since i; change = change i }

-- events that begin with other letters
two_events : {A : Type 0} (o : Option (List ℕ)) (xs ys : List ℕ) → get_or xs 0 0 ≢ get_or ys 0 0 → o ≡ Some xs → o ≡ Some ys → A
two_events o xs ys other a b = apart xs ys other (some_injective o xs ys a b)

same_introduction : (k l s t : List ℕ) (n m e f : Bool) → k ≡ l → s ≡ t → n ≡ m → e ≡ f → api.Introduced k s n e ≡ api.Introduced l t m f
same_introduction k l s t n m e f a b c d = cc

same_deprecation : (k l : ℕ) (s t : List ℕ) → k ≡ l → s ≡ t → api.Deprecated k s ≡ api.Deprecated l t
same_deprecation k l s t a b = cc

one_api_change : (ms : Members) (x y : ApiChange) → IsApiChange ms x → IsApiChange ms y → x ≡ y
one_api_change ms (api.Introduced k s n e) (api.Introduced l t m f) a b =
    same_introduction k l s t n m e f (some_injective _ k l a.1 b.1) (some_injective _ s t a.2 b.2) (some_injective _ n m a.3 b.3) (some_injective _ e f a.4 b.4)
one_api_change ms (api.Introduced k s n e) (api.Deprecated l t) a b = two_events _ (codes "introduced") (codes "deprecated") (omega arith) a.0 b.0
one_api_change ms (api.Introduced k s n e) api.Removed a b = two_events _ (codes "introduced") (codes "removed") (omega arith) a.0 b
one_api_change ms (api.Introduced k s n e) api.Forgotten a b = two_events _ (codes "introduced") (codes "forgotten") (omega arith) a.0 b
one_api_change ms (api.Deprecated l t) (api.Introduced k s n e) a b = two_events _ (codes "deprecated") (codes "introduced") (omega arith) a.0 b.0
one_api_change ms (api.Deprecated k s) (api.Deprecated l t) a b =
    same_deprecation k l s t (one_release (codes "removal") ms k l a.1 b.1) (some_injective _ s t a.2 b.2)
one_api_change ms (api.Deprecated l t) api.Removed a b = two_events _ (codes "deprecated") (codes "removed") (omega arith) a.0 b
one_api_change ms (api.Deprecated l t) api.Forgotten a b = two_events _ (codes "deprecated") (codes "forgotten") (omega arith) a.0 b
one_api_change ms api.Removed (api.Introduced k s n e) a b = two_events _ (codes "removed") (codes "introduced") (omega arith) a b.0
one_api_change ms api.Removed (api.Deprecated l t) a b = two_events _ (codes "removed") (codes "deprecated") (omega arith) a b.0
one_api_change ms api.Removed api.Removed a b = refl
one_api_change ms api.Removed api.Forgotten a b = two_events _ (codes "removed") (codes "forgotten") (omega arith) a b
one_api_change ms api.Forgotten (api.Introduced k s n e) a b = two_events _ (codes "forgotten") (codes "introduced") (omega arith) a b.0
one_api_change ms api.Forgotten (api.Deprecated l t) a b = two_events _ (codes "forgotten") (codes "deprecated") (omega arith) a b.0
one_api_change ms api.Forgotten api.Removed a b = two_events _ (codes "forgotten") (codes "removed") (omega arith) a b
one_api_change ms api.Forgotten api.Forgotten a b = refl

one_api : (ms : Members) (x y : ApiEntry) → IsApiEntry ms x → IsApiEntry ms y → x ≡ y
one_api ms x y a b =
    let group : x.group ≡ y.group = some_injective _ x.group y.group a.group b.group in
    let version : x.version ≡ y.version = some_injective _ x.version y.version a.version b.version in
    let resource : x.resource ≡ y.resource = some_injective _ x.resource y.resource a.resource b.resource in
    let since : x.since ≡ y.since = one_release (codes "since") ms x.since y.since a.since b.since in
    let change : x.change ≡ y.change = one_api_change ms x.change y.change a.change b.change in
    λ i. record { group = group i; version = version i; resource = resource i; since = since i; change = change i }

one_type : (s t : FieldType) → type_word s ≡ type_word t → s ≡ t
one_type type.Bool type.Bool e = refl
one_type type.Bool type.Int e = apart _ _ (omega arith) e
one_type type.Bool type.Text e = apart _ _ (omega arith) e
one_type type.Bool type.TextList e = apart _ _ (omega arith) e
one_type type.Int type.Bool e = apart _ _ (omega arith) e
one_type type.Int type.Int e = refl
one_type type.Int type.Text e = apart _ _ (omega arith) e
one_type type.Int type.TextList e = apart _ _ (omega arith) e
one_type type.Text type.Bool e = apart _ _ (omega arith) e
one_type type.Text type.Int e = apart _ _ (omega arith) e
one_type type.Text type.Text e = refl
one_type type.Text type.TextList e = shorter _ _ (omega arith) e
one_type type.TextList type.Bool e = apart _ _ (omega arith) e
one_type type.TextList type.Int e = apart _ _ (omega arith) e
one_type type.TextList type.Text e = shorter _ _ (omega arith) e
one_type type.TextList type.TextList e = refl

one_form : (f g : Form) → form_word f ≡ form_word g → f ≡ g
one_form form.Same form.Same e = refl
one_form form.Same form.Not e = apart _ _ (omega arith) e
one_form form.Same form.Decimal e = apart _ _ (omega arith) e
one_form form.Not form.Same e = apart _ _ (omega arith) e
one_form form.Not form.Not e = refl
one_form form.Not form.Decimal e = apart _ _ (omega arith) e
one_form form.Decimal form.Same e = apart _ _ (omega arith) e
one_form form.Decimal form.Not e = apart _ _ (omega arith) e
one_form form.Decimal form.Decimal e = refl

one_held_form : (word : Option (List ℕ)) (f g : Form) → MatchOption word (f ≡ form.Same) (λ w. w ≡ form_word f) → MatchOption word (g ≡ form.Same) (λ w. w ≡ form_word g) → f ≡ g
one_held_form None f g a b = a ∙ sym b
one_held_form (Some w) f g a b = one_form f g (sym a ∙ b)

one_field : (ms : Members) (x y : Field) → IsFieldEntry ms x → IsFieldEntry ms y → x ≡ y
one_field ms x y a b =
    let group : x.group ≡ y.group = some_injective _ x.group y.group a.group b.group in
    let resource : x.resource ≡ y.resource = some_injective _ x.resource y.resource a.resource b.resource in
    let id : x.id ≡ y.id = some_injective _ x.id y.id a.id b.id in
    let since : x.since ≡ y.since = one_release (codes "since") ms x.since y.since a.since b.since in
    let ty : x.ty ≡ y.ty = one_type x.ty y.ty (some_injective _ (type_word x.ty) (type_word y.ty) a.ty b.ty) in
    let required : x.required ≡ y.required = sym a.required ∙ b.required in
    let gate : x.gate ≡ y.gate = sym a.gate ∙ b.gate in
    λ i. record { group = group i; resource = resource i; id = id i; since = since i; ty = ty i; required = required i; gate = gate i }

one_spell : (ms : Members) (x y : Spell) → IsSpellEntry ms x → IsSpellEntry ms y → x ≡ y
one_spell ms x y a b =
    let group : x.group ≡ y.group = some_injective _ x.group y.group a.group b.group in
    let resource : x.resource ≡ y.resource = some_injective _ x.resource y.resource a.resource b.resource in
    let version : x.version ≡ y.version = some_injective _ x.version y.version a.version b.version in
    let field : x.field ≡ y.field = some_injective _ x.field y.field a.field b.field in
    let since : x.since ≡ y.since = one_release (codes "since") ms x.since y.since a.since b.since in
    let path : x.path ≡ y.path = some_injective _ x.path y.path a.path b.path in
    let form : x.form ≡ y.form = one_held_form _ x.form y.form a.form b.form in
    let default : x.default ≡ y.default = sym a.default ∙ b.default in
    λ i. record { group = group i; resource = resource i; version = version i; field = field i; since = since i; path = path i; form = form i; default = default i }

one_list : {X : Type 0} (P : Members → X → Type 0) → ((t : Members) (x y : X) → P t x → P t y → x ≡ y) → (ts : List Members) (xs ys : List X) → AllZip P ts xs → AllZip P ts ys → xs ≡ ys
one_list P one [] [] [] a b = refl
one_list P one [] [] (y ∷ ys) a b = absurd b
one_list P one [] (x ∷ xs) ys a b = absurd a
one_list P one (t ∷ ts) [] ys a b = absurd a
one_list P one (t ∷ ts) (x ∷ xs) [] a b = absurd b
one_list P one (t ∷ ts) (x ∷ xs) (y ∷ ys) a b =
    let head : x ≡ y = one t x y a.0 b.0 in
    let tail : xs ≡ ys = one_list P one ts xs ys a.1 b.1 in
    cc

one_meaning : (ms : Members) (h k : Dated) → IsHistory ms h → IsHistory ms k → h ≡ k
one_meaning ms h k a b =
    let first : h.first ≡ k.first = one_optional (codes "first") ms h.first k.first a.first b.first in
    let last : h.last ≡ k.last = one_optional (codes "last") ms h.last k.last a.last b.last in
    let gates : h.gates ≡ k.gates = one_list IsGateEntry one_gate _ h.gates k.gates a.gates b.gates in
    let apis : h.apis ≡ k.apis = one_list IsApiEntry one_api _ h.apis k.apis a.apis b.apis in
    let fields : h.fields ≡ k.fields = one_list IsFieldEntry one_field _ h.fields k.fields a.fields b.fields in
    let spells : h.spells ≡ k.spells = one_list IsSpellEntry one_spell _ h.spells k.spells a.spells b.spells in
    λ i. record { first = first i; last = last i; gates = gates i; apis = apis i; fields = fields i; spells = spells i }

one_tree : (text : List ℕ) (ms ns : Members) → ReadsAs text ms → ReadsAs text ns → ms ≡ ns
one_tree text ms ns a b = some_injective _ ms ns a.parsed b.parsed

pub one_history : (text : List ℕ) (h k : Dated) → MeansHistory text h → MeansHistory text k → h ≡ k
one_history text h k a b =
    let same : b.tree ≡ a.tree = one_tree text b.tree a.tree b.reads a.reads in
    let P : Members → Type 0 = λ ms. MeansTree ms k in
    let other : MeansTree a.tree k = subst P same b.holds in
    one_meaning a.tree h k a.holds.history other.history

-- among tests that pass there is no fault
passed_within : (before : List Test) (t : Test) (after : List Test) → AllByRecursion Passes (before ++ t ∷ after) → Passes t
passed_within [] t after h = h.0
passed_within (x ∷ before) t after h = passed_within before t after h.1

no_fault : (tests : List Test) (p : Place) → AllByRecursion Passes tests → IsFirstFault tests p → ⊥
no_fault tests p h f = let P : List Test → Type 0 = AllByRecursion Passes in f.failed (passed_within f.before f.test f.after (subst P f.split h))

-- two first faults of one list are one
one_split : (xs ys : List Test) (t u : Test) (vs ws : List Test) → xs ++ t ∷ vs ≡ ys ++ u ∷ ws → AllByRecursion Passes xs → AllByRecursion Passes ys → (Passes t → ⊥) → (Passes u → ⊥) → t ≡ u
one_split [] [] t u vs ws e a b m n = cc
one_split [] (y ∷ ys) t u vs ws e a b m n = let same : y ≡ t = cc in absurd (m (subst Passes same b.0))
one_split (x ∷ xs) [] t u vs ws e a b m n = let same : x ≡ u = cc in absurd (n (subst Passes same a.0))
one_split (x ∷ xs) (y ∷ ys) t u vs ws e a b m n = one_split xs ys t u vs ws (ap (drop 1) e) a.1 b.1 m n

one_place : (tests : List Test) (p q : Place) → IsFirstFault tests p → IsFirstFault tests q → p ≡ q
one_place tests p q f g =
    let same : f.test ≡ g.test = one_split f.before g.before f.test g.test f.after g.after (sym f.split ∙ g.split) f.passed g.passed f.failed g.failed in
    f.named ∙ ap (λ (t : Test). t.place) same ∙ sym g.named

abbrev place : Array → ℕ → List ℕ → Place
place a i n = record { array = a; index = i; member = n }

one_entry : (ms : Members) (a b : Array) (i j : ℕ) (n m : List ℕ) → IsFirstFault (document_tests ms) (place a i n) → IsFirstFault (document_tests ms) (place b j m) → BadEntry a i n ≡ BadEntry b j m
one_entry ms a b i j n m f g = ap (λ (p : Place). BadEntry p.array p.index p.member) (one_place (document_tests ms) (place a i n) (place b j m) f g)

pub means_or_is_refused : (text : List ℕ) (h : Dated) (fault : HistoryFault) → MeansHistory text h → IsRefused text fault → fault ≡ Memory
means_or_is_refused text h Memory m r = refl
means_or_is_refused text h TooLong m r = let short : length text ≤ 1048576 = m.short in absurd (omega arith)
means_or_is_refused text h NotToml m r = absurd (r.1 m.tree m.reads)
means_or_is_refused text h (BadEntry a i n) m r =
    let same : r.tree ≡ m.tree = one_tree text r.tree m.tree r.reads m.reads in
    let P : Members → Type 0 = λ ms. IsFirstFault (document_tests ms) (place a i n) in
    absurd (no_fault (document_tests m.tree) _ m.holds.passed (subst P same r.holds))

pub one_fault : (text : List ℕ) (e f : HistoryFault) → e ≢ Memory → f ≢ Memory → IsRefused text e → IsRefused text f → e ≡ f
one_fault text Memory f m n a b = absurd (m refl)
one_fault text TooLong Memory m n a b = absurd (n refl)
one_fault text TooLong TooLong m n a b = refl
one_fault text TooLong NotToml m n a b = let short : length text ≤ 1048576 = b.0 in absurd (omega arith)
one_fault text TooLong (BadEntry c j l) m n a b = let short : length text ≤ 1048576 = b.short in absurd (omega arith)
one_fault text NotToml Memory m n a b = absurd (n refl)
one_fault text NotToml TooLong m n a b = let short : length text ≤ 1048576 = a.0 in absurd (omega arith)
one_fault text NotToml NotToml m n a b = refl
one_fault text NotToml (BadEntry c j l) m n a b = absurd (a.1 b.tree b.reads)
one_fault text (BadEntry c j l) Memory m n a b = absurd (n refl)
one_fault text (BadEntry c j l) TooLong m n a b = let short : length text ≤ 1048576 = a.short in absurd (omega arith)
one_fault text (BadEntry c j l) NotToml m n a b = absurd (b.1 a.tree a.reads)
one_fault text (BadEntry c j l) (BadEntry d k o) m n a b =
    let same : b.tree ≡ a.tree = one_tree text b.tree a.tree b.reads a.reads in
    let P : Members → Type 0 = λ ms. IsFirstFault (document_tests ms) (place d k o) in
    one_entry a.tree c d j k l o a.holds (subst P same b.holds)
