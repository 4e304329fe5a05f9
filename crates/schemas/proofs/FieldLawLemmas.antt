-- The laws of the fields and spellings of accepted histories.
use Rattle.std.proofs.Common.{ℕ, ◌≡◌, ◌+◌, ◌<◌, ◌≤◌, List, Option, Some, None, length, take, max, sym, ap, subst, ◌∙◌, arith, inl, inr}
use Rattle.std.specs.Prelude.{◌&&◌, slice_get, All, Any}
use Rattle.std.specs.Str.{bytes_eq}
use Rattle.std.proofs.lemmas.Bool.{and_parts, cases_order}
use Rattle.std.proofs.lemmas.List.{get_or-take, length-take-le}
use Rattle.std.proofs.lemmas.Option.{slice_get_within, get_or_from_slice_get}
use Rattle.std.proofs.lemmas.Slice.Eq.{bytes_eq-Decides}
use Rattle.basis.proofs.ElementLemmas.{Any-weaker}
use Rattle.fields.specs.Table.{AreApart}
use Rattle.fields.specs.declared.field.Field.{Field}
use Rattle.fields.specs.declared.field.Spell.{Spell}
use Rattle.lifecycle.specs.Entry.{GroupVersionResource, subject, IsIntroduction, IsRemoval, IsKnownOf, IsIntroduced, IsRemoved, IsLive}
use Rattle.lifecycle.specs.declared.entry.ApiChange.{ApiChange}
use Rattle.lifecycle.specs.declared.entry.ApiChange.TheVariants.{Introduced, Deprecated, Removed, Forgotten}
use Rattle.lifecycle.specs.declared.entry.ApiEntry.{ApiEntry}
use Rattle.schemas.specs.ApiRules.{is_of_version, previous_of_version, name_of, IsForgetting, IsForgotten, IsLateAfter, IsForgottenLate, ForgetsLate}
use Rattle.schemas.specs.Dated.{Dated}
use Rattle.schemas.specs.Places.{Each}
use Rattle.schemas.specs.Rules.{IsAccepted}
use Rattle.schemas.proofs.AcceptedLemmas as hr
use Rattle.schemas.proofs.DecodableLemmas.{decodable_dated}
use Rattle.schemas.proofs.LawLemmas.{any_stands, introduced_later, introduced_once}
use Rattle.schemas.proofs.PlaceLemmas.{some_injective}
use Rattle.schemas.proofs.PreviousLemmas.{entry_at, IsLast, last_passing_is}
use Rattle.schemas.specs.FieldRules.{AreOneField}
use Rattle.schemas.specs.Laws.{ArePairsKept, IsDecodable, LiveStaysDecodable, IsIntroducedOnce, IsSpelledOnceBy, DecodableIsSpelled, PathsAreApart}
use Rattle.schemas.specs.Pairs.{IsPair, IsOfField, IsOfVersion, IsSpelling, SpellsPair, AreForOneVersion, AreOfOnePair, HasOneSpelling, AreSpelledOnce}

some_at : {E : Type 0} (P : E → Type 0) (xs : List E) (i : ℕ) (x : E) → slice_get xs i ≡ Some x → P x → Any P xs
some_at P xs i x stands here = (i, x, slice_get_within xs i x stands, get_or_from_slice_get xs i x x stands, here)

pub each_at : {E : Type 0} (P : E → Type 0) (xs : List E) (i : ℕ) (x : E) → slice_get xs i ≡ Some x → All P xs → P x
each_at P xs i x stands all = subst P (get_or_from_slice_get xs i x x stands) (all i x (slice_get_within xs i x stands))

earlier_at : {E : Type 0} (P : E → Type 0) (xs : List E) (i j : ℕ) (x : E) → i < j → j ≤ length xs → slice_get xs i ≡ Some x → All P (take j xs) → P x
earlier_at P xs i j x less bound stands all =
    subst P (get_or-take j xs i x less ∙ get_or_from_slice_get xs i x x stands) (all i x (rw (length-take-le j xs bound) less))

-- where each entry is another than those before it, two that are the same stand at one place
one_place : {E : Type 0} (R : E → E → Type 0) (xs : List E) → Each (λ earlier x. All (λ y. ¬ R x y) earlier) xs → (i j : ℕ) (x y : E) → slice_get xs i ≡ Some x → slice_get xs j ≡ Some y → R x y → R y x → i ≡ j
one_place {E} R xs each i j x y sx sy one two =
    let within_i : i < length xs = slice_get_within xs i x sx in
    let within_j : j < length xs = slice_get_within xs j y sy in
    let to_i : i ≤ length xs = omega arith in
    let to_j : j ≤ length xs = omega arith in
    elim (cases_order i j) [
      | inl same ↦ same
      | inr other ↦ elim other [
        | inl less ↦ absurd (earlier_at (λ z. ¬ R y z) xs i j x less to_j sx (each j y sy) two)
        | inr more ↦ absurd (earlier_at (λ z. ¬ R x z) xs j i y more to_i sy (each i x sx) one)
      ]
    ]

-- HR10: what is forgotten by a release was removed three releases before
late_of : (all : List ApiEntry) (previous : Option ApiEntry) (x : ApiEntry) (change : ApiChange) → IsForgetting change → IsForgottenLate all previous x change → IsLateAfter previous x.since
late_of all previous x (Introduced kind singular namespaced enabled) is rule = absurd is
late_of all previous x (Deprecated removal replacement) is rule = absurd is
late_of all previous x Removed is rule = absurd is
late_of all previous x Forgotten is rule = rule.0

removed_before : (apis : List ApiEntry) (name : GroupVersionResource) (m e k : ℕ) (x : ApiEntry) → e ≤ m + 3 → k ≤ length apis → IsKnownOf name e x → (found : Option ApiEntry) → IsLast (is_of_version x) apis k found → IsLateAfter found x.since → IsRemoved apis name m
removed_before apis name m e k x near bound known None last late = absurd late
removed_before apis name m e k x near bound known (Some y) last late =
    let (front, third) = and_parts (bytes_eq x.group y.group && bytes_eq x.version y.version) (bytes_eq x.resource y.resource) last.passes in
    let (first, second) = and_parts (bytes_eq x.group y.group) (bytes_eq x.version y.version) front in
    let forgotten : x.since ≤ e = known.dated in
    let apart : y.since + 3 ≤ x.since = late.1 in
    let removed : y.since ≤ m = omega arith in
    some_at (λ z. IsKnownOf name m z × IsRemoval z.change) apis last.place y last.stands (
      record {
        group = sym ((bytes_eq-Decides x.group y.group).0 first) ∙ known.group;
        version = sym ((bytes_eq-Decides x.version y.version).0 second) ∙ known.version;
        resource = sym ((bytes_eq-Decides x.resource y.resource).0 third) ∙ known.resource;
        dated = removed;
      },
      late.0,
    )

pub stays_decodable : (apis : List ApiEntry) → Each (ForgetsLate apis) apis → LiveStaysDecodable apis
stays_decodable apis late = λ (name : GroupVersionResource) (m e : ℕ) (later : m ≤ e) (near : e ≤ m + 3) (live : IsLive apis name m). (decodable_dated apis name e).1 (
  introduced_later apis name m e later live.0,
  λ (forgotten : IsForgotten apis name e).
      let P : ApiEntry → Type 0 = λ x. IsKnownOf name e x × IsForgetting x.change in
      let k : ℕ = forgotten.0 in
      let x : ApiEntry = forgotten.1 in
      let within : forgotten.0 < length apis = forgotten.2 in
      let bound : forgotten.0 ≤ length apis = omega arith in
      live.1 (removed_before apis name m e forgotten.0 forgotten.1 near bound forgotten.4.0 (previous_of_version (take forgotten.0 apis) forgotten.1) (last_passing_is (is_of_version forgotten.1) apis forgotten.0 bound)
      (late_of apis (previous_of_version (take forgotten.0 apis) forgotten.1) forgotten.1 forgotten.1.change forgotten.4.1 (late forgotten.0 forgotten.1 (any_stands P apis forgotten)))),
)

one_pair : (f : Field) (name : GroupVersionResource) (s t : Spell) → IsSpelling f name s → IsSpelling f name t → AreOfOnePair s t
one_pair f name s t first second = (
  record { group = sym first.1.group ∙ second.1.group; version = sym first.1.version ∙ second.1.version; resource = sym first.1.resource ∙ second.1.resource },
  sym first.0.id ∙ second.0.id,
)

-- HR14: two spellings of one field in one version stand at one place
one_spelling : (h : Dated) → ArePairsKept h → (f : Field) (name : GroupVersionResource) (i j : ℕ) (s t : Spell) → slice_get h.spells i ≡ Some s → slice_get h.spells j ≡ Some t → IsSpelling f name s → IsSpelling f name t → i ≡ j
one_spelling h kept f name i j s t at_i at_j first second = one_place AreOfOnePair h.spells (λ k x stands. (kept.of_spellings k x stands).single) i j s t at_i at_j (one_pair f name s t first second) (one_pair f name t s second first)

pub pairs_spelled_once : (h : Dated) → ArePairsKept h → AreSpelledOnce h.apis h.fields h.spells
pairs_spelled_once h kept = record {
  pairs = λ (i j : ℕ) (f : Field) (x : ApiEntry) (at_i : slice_get h.fields i ≡ Some f) (at_j : slice_get h.apis j ≡ Some x) (pair : IsPair h.apis f x). record {
    some = each_at (λ a. IsPair h.apis f a → Any (IsSpelling f (subject a)) h.spells) h.apis j x at_j (kept.of_fields i f at_i) pair;
    one = one_spelling h kept f (subject x);
  };
  spellings = λ i s stands. (kept.of_spellings i s stands).paired;
}

all_at : {E : Type 0} (P : E → Type 0) (xs : List E) → ((k : ℕ) (x : E) → slice_get xs k ≡ Some x → P x) → All P xs
all_at {E} P xs each = λ (k : ℕ) (d : E) (within : k < length xs).
    let at = entry_at xs k within in
    subst P (sym (get_or_from_slice_get xs k at.0 d at.1)) (each k at.0 at.1)

all_earlier_at : {E : Type 0} (P : E → Type 0) (xs : List E) (n : ℕ) → n ≤ length xs → ((k : ℕ) (x : E) → k < n → slice_get xs k ≡ Some x → P x) → All P (take n xs)
all_earlier_at {E} P xs n bound each = λ (k : ℕ) (d : E) (within : k < length (take n xs)).
    let low : k < n = subst (λ (m : ℕ). k < m) (length-take-le n xs bound) within in
    let below : k < length xs = omega arith in
    let at = entry_at xs k below in
    subst P (sym (get_or-take n xs k d low ∙ get_or_from_slice_get xs k at.0 d at.1)) (each k at.0 low at.1)

-- a second spelling of a pair stands at another place than the first
apart_of_pair : (h : Dated) → AreSpelledOnce h.apis h.fields h.spells → (i k : ℕ) (s t : Spell) → k < i → slice_get h.spells i ≡ Some s → slice_get h.spells k ≡ Some t → ¬ AreOfOnePair s t
apart_of_pair h once i k s t less at_i at_k same =
    let Q : Field → Type 0 = λ f. IsOfField f s × Any (SpellsPair h.apis f s) h.apis in
    let paired : Any Q h.fields = once.spellings i s at_i in
    let of : IsOfField paired.1 s = paired.4.0 in
    let entry : Any (SpellsPair h.apis paired.1 s) h.apis = paired.4.1 in
    let spells : SpellsPair h.apis paired.1 s entry.1 = entry.4 in
    let version : IsOfVersion (subject entry.1) s = spells.spelling in
    let here : IsSpelling paired.1 (subject entry.1) s = (of, version) in
    let there : IsSpelling paired.1 (subject entry.1) t = (
      record { group = of.group ∙ same.0.group; resource = of.resource ∙ same.0.resource; id = of.id ∙ same.1 },
      record { group = version.group ∙ same.0.group; version = version.version ∙ same.0.version; resource = version.resource ∙ same.0.resource },
    ) in
    let place : k ≡ i = (once.pairs paired.0 entry.0 paired.1 entry.1 (any_stands Q h.fields paired) (any_stands (SpellsPair h.apis paired.1 s) h.apis entry) spells.pair).one k i t s at_k at_i there here in
    absurd (omega arith)

pub pairs_kept : (h : Dated) → AreSpelledOnce h.apis h.fields h.spells → ArePairsKept h
pairs_kept h once = record {
  of_fields = λ i f at_i. all_at (λ a. IsPair h.apis f a → Any (IsSpelling f (subject a)) h.spells) h.apis (λ j x at_j (pair : IsPair h.apis f x). (once.pairs i j f x at_i at_j pair).some);
  of_spellings = λ (i : ℕ) (s : Spell) (at_i : slice_get h.spells i ≡ Some s).
      let within : i < length h.spells = slice_get_within h.spells i s at_i in
      let bound : i ≤ length h.spells = omega arith in
      record {
        paired = once.spellings i s at_i;
        single = all_earlier_at (λ t. ¬ AreOfOnePair s t) h.spells i bound (λ k t less at_k. apart_of_pair h once i k s t less at_i at_k);
      };
}

pairs_of : (h : Dated) → IsAccepted h → ArePairsKept h
pairs_of h lawful = record { of_fields = (hr.spelled_throughout h lawful); of_spellings = (hr.spelled_once h lawful) }

-- HR15: paths are apart both ways
pub turned : (p q : List (List ℕ)) → AreApart p q → AreApart q p
turned p q apart = record { not_through = apart.not_within; not_within = apart.not_through }

pub paths_apart : (h : Dated) → IsAccepted h → PathsAreApart h.spells
paths_apart h lawful = λ (i j : ℕ) (s t : Spell) (less : i < j) (at_i : slice_get h.spells i ≡ Some s) (at_j : slice_get h.spells j ≡ Some t) (one : AreForOneVersion s t).
    let within : j < length h.spells = slice_get_within h.spells j t at_j in
    let bound : j ≤ length h.spells = omega arith in
    turned t.path s.path (earlier_at (λ u. AreForOneVersion t u → AreApart t.path u.path) h.spells i j s less bound at_i ((hr.paths_apart h lawful) j t at_j).apart (record { group = sym one.group; version = sym one.version; resource = sym one.resource }))

-- the field of a spelling and the introduction of its version are those that it names
pub one_field : (h : Dated) → IsAccepted h → (i j : ℕ) (f g : Field) → slice_get h.fields i ≡ Some f → slice_get h.fields j ≡ Some g → AreOneField f g → AreOneField g f → f ≡ g
one_field h lawful i j f g at_i at_j one two =
    let same : i ≡ j = one_place AreOneField h.fields (λ k x stands. ((hr.fields_belong h lawful) k x stands).once) i j f g at_i at_j one two in
    some_injective f g (sym at_i ∙ subst (λ (k : ℕ). slice_get h.fields k ≡ Some g) (sym same) at_j)

one_introduction : (h : Dated) → IsIntroducedOnce h → (i j : ℕ) (x y : ApiEntry) → slice_get h.apis i ≡ Some x → slice_get h.apis j ≡ Some y → subject x ≡ subject y → IsIntroduction x.change → IsIntroduction y.change → x ≡ y
one_introduction h once i j x y at_i at_j same first second =
    elim (cases_order i j) [
      | inl here ↦ some_injective x y (sym at_i ∙ subst (λ (k : ℕ). slice_get h.apis k ≡ Some y) (sym here) at_j)
      | inr other ↦ elim other [
        | inl less ↦ absurd (once i j x y less at_i at_j (record { group = ap (λ (n : GroupVersionResource). n.group) same; version = ap (λ (n : GroupVersionResource). n.version) same; resource = ap (λ (n : GroupVersionResource). n.resource) same }) first second)
        | inr more ↦ absurd (once j i y x more at_j at_i (record { group = ap (λ (n : GroupVersionResource). n.group) (sym same); version = ap (λ (n : GroupVersionResource). n.version) (sym same); resource = ap (λ (n : GroupVersionResource). n.resource) (sym same) }) second first)
      ]
    ]

named_of : (name : GroupVersionResource) (s : Spell) → IsOfVersion name s → name ≡ name_of s.group s.version s.resource
named_of name s v = λ i. name_of (v.group i) (v.version i) (v.resource i)

known_of : (name : GroupVersionResource) (e : ℕ) (x : ApiEntry) → IsKnownOf name e x → subject x ≡ name
known_of name e x k = λ i. name_of (k.group i) (k.version i) (k.resource i)

forgotten_later : (apis : List ApiEntry) (name : GroupVersionResource) (m e : ℕ) → m ≤ e → IsForgotten apis name m → IsForgotten apis name e
forgotten_later apis name m e later = Any-weaker (λ x. IsKnownOf name m x × IsForgetting x.change) (λ x. IsKnownOf name e x × IsForgetting x.change) apis
    (λ x (w : IsKnownOf name m x × IsForgetting x.change). (record { group = w.0.group; version = w.0.version; resource = w.0.resource; dated = (let d : x.since ≤ m = w.0.dated in omega arith) }, w.1))

-- a spelling of a pair is dated when both the field and the version are there
dated_by : (h : Dated) → IsAccepted h → (i j k e : ℕ) (f : Field) (x : ApiEntry) (s : Spell) → slice_get h.fields i ≡ Some f → slice_get h.apis j ≡ Some x → slice_get h.spells k ≡ Some s → IsIntroduction x.change → IsSpelling f (subject x) s → f.since ≤ e → x.since ≤ e → s.since ≤ e
dated_by h lawful i j k e f x s at_i at_j at_k is spelling field_by version_by =
    let Q : Field → Type 0 = λ g. IsOfField g s × Any (SpellsPair h.apis g s) h.apis in
    let paired : Any Q h.fields = ((hr.spelled_once h lawful) k s at_k).paired in
    let of : IsOfField paired.1 s = paired.4.0 in
    let entry : Any (SpellsPair h.apis paired.1 s) h.apis = paired.4.1 in
    let spells : SpellsPair h.apis paired.1 s entry.1 = entry.4 in
    let field : f ≡ paired.1 = one_field h lawful i paired.0 f paired.1 at_i (any_stands Q h.fields paired)
    (record { group = of.group ∙ sym spelling.0.group; resource = of.resource ∙ sym spelling.0.resource; id = of.id ∙ sym spelling.0.id })
    (record { group = spelling.0.group ∙ sym of.group; resource = spelling.0.resource ∙ sym of.resource; id = spelling.0.id ∙ sym of.id }) in
    let version : x ≡ entry.1 = one_introduction h (introduced_once h lawful) j entry.0 x entry.1 at_j (any_stands (SpellsPair h.apis paired.1 s) h.apis entry)
    (named_of (subject x) s spelling.1 ∙ sym (named_of (subject entry.1) s spells.spelling)) is spells.pair.version.introduces in
    let dated : s.since ≡ max f.since x.since = spells.dated ∙ ap (λ (g : Field). max g.since entry.1.since) (sym field) ∙ ap (λ (a : ApiEntry). max f.since a.since) (sym version) in
    omega arith

pub decodable_spelled : (h : Dated) → IsAccepted h → DecodableIsSpelled h
decodable_spelled h lawful = λ (name : GroupVersionResource) (e i : ℕ) (f : Field) (is_decodable : IsDecodable h.apis name e) (at_i : slice_get h.fields i ≡ Some f) (of_group : f.group ≡ name.group) (of_resource : f.resource ≡ name.resource) (by : f.since ≤ e).
    let decodable : IsIntroduced h.apis name e × ¬ IsForgotten h.apis name e = (decodable_dated h.apis name e).0 is_decodable in
    let P : ApiEntry → Type 0 = λ x. IsKnownOf name e x × IsIntroduction x.change in
    let known : IsKnownOf name e decodable.0.1 = decodable.0.4.0 in
    let is : IsIntroduction decodable.0.1.change = decodable.0.4.1 in
    let at_j : slice_get h.apis decodable.0.0 ≡ Some decodable.0.1 = any_stands P h.apis decodable.0 in
    let named : subject decodable.0.1 ≡ name = known_of name e decodable.0.1 known in
    let pair : IsPair h.apis f decodable.0.1 = record {
      version = record { of_group = known.group ∙ sym of_group; of_resource = known.resource ∙ sym of_resource; introduces = is };
      kept = λ (forgotten : IsForgotten h.apis (subject decodable.0.1) f.since). decodable.1 (subst (λ (n : GroupVersionResource). IsForgotten h.apis n e) named (forgotten_later h.apis (subject decodable.0.1) f.since e by forgotten));
    } in
    let spelled : HasOneSpelling h.spells f (subject decodable.0.1) = (pairs_spelled_once h (pairs_of h lawful)).pairs i decodable.0.0 f decodable.0.1 at_i at_j pair in
    let some : Any (IsSpelling f (subject decodable.0.1)) h.spells = spelled.some in
    let dated : some.1.since ≤ e = dated_by h lawful i decodable.0.0 some.0 e f decodable.0.1 some.1 at_i at_j (any_stands (IsSpelling f (subject decodable.0.1)) h.spells some) is some.4 by known.dated in
    let here : Any (λ s. IsSpelling f (subject decodable.0.1) s × (s.since ≤ e)) h.spells = (some.0, some.1, some.2, some.3, (some.4, dated)) in
    subst (λ (n : GroupVersionResource). IsSpelledOnceBy e h.spells f n) named (record { some = here; one = spelled.one })
