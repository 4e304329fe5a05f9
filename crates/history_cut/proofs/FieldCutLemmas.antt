-- The rules on fields and spellings are kept where a history is cut.
use Rattle.std.proofs.Common.{ℕ, ◌≡◌, ◌<◌, ◌≤◌, List, true, Option, Some, None, filter, length, max, take, sym, ap, subst, ◌∙◌, arith, inl, inr, get_or}
use Rattle.std.specs.Prelude.{nat_le, slice_get, All, Any, IfSome}
use Rattle.std.proofs.lemmas.Bool.{leb-true, le-leb, cases_order}
use Rattle.std.proofs.lemmas.List.{get_or-take, length-take-le}
use Rattle.std.proofs.lemmas.List.Elements.{All-filter}
use Rattle.std.proofs.lemmas.Option.{slice_get_within, get_or_from_slice_get}
use Rattle.basis.proofs.ElementLemmas.{Any-from, Any-weaker}
use Rattle.basis.proofs.FilterLemmas.{Contains-filter}
use Rattle.fields.specs.Table.{AreApart}
use Rattle.fields.specs.declared.field.Field.{Field}
use Rattle.fields.specs.declared.field.Spell.{Spell}
use Rattle.gate_spec.specs.Gates.{cutoff as gates_by}
use Rattle.gate_spec.specs.declared.entry.GateEntry.{GateEntry}
use Rattle.lifecycle.specs.Entry.{GroupVersionResource, subject, IsIntroduction}
use Rattle.lifecycle.specs.Tables.{cutoff as apis_by}
use Rattle.lifecycle.specs.declared.entry.ApiEntry.{ApiEntry}
use Rattle.schemas.specs.ApiRules.{name_of, IsForgetting, StandsInOrder}
use Rattle.schemas.specs.Cutoff.{fields_by, spells_by}
use Rattle.schemas.specs.FieldRules.{is_of_resource, AreOneField, begins_at, BelongsToResource, IsRequiredFairly, HasKnownGate, IsSpelledThroughout}
use Rattle.schemas.specs.Pairs.{IntroducesVersionOf, IsPair, IsOfField, IsOfVersion, IsSpelling, SpellsPair, IsPaired, AreForOneVersion, AreOfOnePair}
use Rattle.schemas.specs.Places.{Each}
use Rattle.schemas.specs.Rules.{IsFieldBy, IsSpellBy}
use Rattle.schemas.specs.SpellRules.{SpellsPairOnce, HasOwnPath, FitsType, FitsField}
use Rattle.schemas.proofs.FieldLawLemmas.{each_at}
use Rattle.schemas.proofs.LawLemmas.{any_stands}
use Rattle.schemas.proofs.PlaceLemmas.{some_injective}
use Rattle.history_cut.proofs.ApiCutLemmas.{change_known, change_there}
use Rattle.history_cut.proofs.ApiOrderLemmas.{one_introduction}
use Rattle.history_cut.proofs.KeptLemmas.{each_kept, all_kept, any_kept, fewer}

-- ---- the one field of an id

module _ (fields : List Field) (apart : Each (λ earlier x. All (λ y. ¬ AreOneField x y) earlier) fields) where
  other_field : (i j : ℕ) (f g : Field) → i < j → slice_get fields i ≡ Some f → slice_get fields j ≡ Some g → ¬ AreOneField g f
  other_field i j f g less at_i at_j =
      let within : j < length fields = slice_get_within fields j g at_j in
      let bound : j ≤ length fields = omega arith in
      let read : get_or (take j fields) i f ≡ f = get_or-take j fields i f less ∙ get_or_from_slice_get fields i f f at_i in
      subst (λ (h : Field). ¬ AreOneField g h) read (apart j g at_j i f (subst (λ (n : ℕ). i < n) (sym (length-take-le j fields bound)) less))

  one_field : (i j : ℕ) (f g : Field) → slice_get fields i ≡ Some f → slice_get fields j ≡ Some g → AreOneField f g → AreOneField g f → f ≡ g
  one_field i j f g at_i at_j one two = elim (cases_order i j) [
    | inl here ↦ some_injective f g (sym at_i ∙ subst (λ (k : ℕ). slice_get fields k ≡ Some g) (sym here) at_j)
    | inr other ↦ elim other [
      | inl less ↦ absurd (other_field i j f g less at_i at_j two)
      | inr more ↦ absurd (other_field j i g f more at_j at_i one)
    ]
  ]

-- ---- fields

module _ (gates : List GateEntry) (apis : List ApiEntry) (fields : List Field) (spells : List Spell) (first o : ℕ) (from : first ≤ o) where
  -- HR2
  pub fields_dated : (last : ℕ) → Each (IsFieldBy last) fields → Each (IsFieldBy o) (fields_by fields o)
  fields_dated last = each_kept (IsFieldBy last) (IsFieldBy o) (λ x. nat_le x.since o) fields (λ j x sx passes keeps. leb-true x.since o passes)

  pub spells_dated : (last : ℕ) → Each (IsSpellBy last) spells → Each (IsSpellBy o) (spells_by spells o)
  spells_dated last = each_kept (IsSpellBy last) (IsSpellBy o) (λ x. nat_le x.since o) spells (λ j x sx passes keeps. leb-true x.since o passes)

  versioned_cut : (x : Field) → x.since ≤ o → Any (λ a. IntroducesVersionOf x.group x.resource a × (a.since ≤ begins_at first x)) apis → Any (λ a. IntroducesVersionOf x.group x.resource a × (a.since ≤ begins_at first x)) (apis_by apis o)
  versioned_cut x by =
      any_kept (λ a. IntroducesVersionOf x.group x.resource a × (a.since ≤ begins_at first x)) (λ a. nat_le a.since o) apis
      (λ (a : ApiEntry) (h : IntroducesVersionOf x.group x.resource a × (a.since ≤ begins_at first x)). let dated : a.since ≤ max x.since first = h.1 in le-leb a.since o (omega arith))

  -- HR11
  pub fields_belong_cut : Each (BelongsToResource first apis) fields → Each (BelongsToResource first (apis_by apis o)) (fields_by fields o)
  fields_belong_cut =
      each_kept (BelongsToResource first apis) (BelongsToResource first (apis_by apis o)) (λ x. nat_le x.since o) fields
      (λ (j : ℕ) (x : Field) (sx : slice_get fields j ≡ Some x) (passes : nat_le x.since o ≡ true) (keeps : BelongsToResource first apis (take j fields) x). record {
        once = All-filter (λ y. nat_le y.since o) (λ y. ¬ AreOneField x y) (take j fields) keeps.once;
        few =
            let all : length (filter (is_of_resource x) (take j fields)) < 64 = keeps.few in
            let less = fewer (is_of_resource x) (λ (y : Field). nat_le y.since o) (take j fields) in
            omega arith;
        versioned = versioned_cut x (leb-true x.since o passes) keeps.versioned;
      })

  -- HR12
  pub required_fairly_cut : Each (IsRequiredFairly apis) fields → Each (IsRequiredFairly (apis_by apis o)) (fields_by fields o)
  required_fairly_cut =
      each_kept (IsRequiredFairly apis) (IsRequiredFairly (apis_by apis o)) (λ x. nat_le x.since o) fields
      (λ (j : ℕ) (x : Field) (sx : slice_get fields j ≡ Some x) (passes : nat_le x.since o ≡ true) (keeps : IsRequiredFairly apis (take j fields) x) (required : x.required ≡ true). record {
        unguarded = (keeps required).unguarded;
        from_start = All-filter (λ a. nat_le a.since o) (λ a. IntroducesVersionOf x.group x.resource a → x.since ≤ a.since) apis (keeps required).from_start;
      })

  gate_known_cut : (x : Field) (gate : Option (List ℕ)) → x.since ≤ o → IfSome gate (λ name. Any (λ y. (y.name ≡ name) × (y.since ≤ begins_at first x)) gates) → IfSome gate (λ name. Any (λ y. (y.name ≡ name) × (y.since ≤ begins_at first x)) (gates_by gates o))
  gate_known_cut x None by known = tt
  gate_known_cut x (Some name) by known =
      any_kept (λ y. (y.name ≡ name) × (y.since ≤ begins_at first x)) (λ y. nat_le y.since o) gates
      (λ (y : GateEntry) (h : (y.name ≡ name) × (y.since ≤ begins_at first x)). let dated : y.since ≤ max x.since first = h.1 in le-leb y.since o (omega arith)) known

  -- HR13
  pub gates_known_cut : Each (HasKnownGate first gates) fields → Each (HasKnownGate first (gates_by gates o)) (fields_by fields o)
  gates_known_cut = each_kept (HasKnownGate first gates) (HasKnownGate first (gates_by gates o)) (λ x. nat_le x.since o) fields (λ j x sx passes keeps. gate_known_cut x x.gate (leb-true x.since o passes) keeps)

  -- ---- spellings

  -- a pair of the whole history that the release knows is one of the cut one
  pair_cut : (f : Field) (a : ApiEntry) → IsPair apis f a → IsPair (apis_by apis o) f a
  pair_cut f a pair = record { version = pair.version; kept = λ forgotten. pair.kept (change_there apis o IsForgetting (subject a) f.since forgotten) }

  -- and the other way
  pair_whole : (f : Field) (a : ApiEntry) → f.since ≤ o → IsPair (apis_by apis o) f a → IsPair apis f a
  pair_whole f a by pair = record { version = pair.version; kept = λ forgotten. pair.kept (change_known apis o IsForgetting (subject a) f.since by forgotten) }

  named_of : (name : GroupVersionResource) (s : Spell) → IsOfVersion name s → name ≡ name_of s.group s.version s.resource
  named_of name s v = λ i. name_of (v.group i) (v.version i) (v.resource i)

  -- a spelling of a pair is dated when both the field and the version are there
  dated_by : Each StandsInOrder apis → Each (BelongsToResource first apis) fields → (i j : ℕ) (f : Field) (a : ApiEntry) (s : Spell) → slice_get fields i ≡ Some f → slice_get apis j ≡ Some a → IsIntroduction a.change → IsSpelling f (subject a) s
      → f.since ≤ o → a.since ≤ o → IsPaired apis fields s → s.since ≤ o
  dated_by order belong i j f a s at_i at_j is spelling field_by version_by paired =
      let Q : Field → Type 0 = λ g. IsOfField g s × Any (SpellsPair apis g s) apis in
      let of : IsOfField paired.1 s = paired.4.0 in
      let entry : Any (SpellsPair apis paired.1 s) apis = paired.4.1 in
      let pair : SpellsPair apis paired.1 s entry.1 = entry.4 in
      let field : f ≡ paired.1 = one_field fields (λ k x stands. (belong k x stands).once) i paired.0 f paired.1 at_i (any_stands Q fields paired)
      (record { group = of.group ∙ sym spelling.0.group; resource = of.resource ∙ sym spelling.0.resource; id = of.id ∙ sym spelling.0.id })
      (record { group = spelling.0.group ∙ sym of.group; resource = spelling.0.resource ∙ sym of.resource; id = spelling.0.id ∙ sym of.id }) in
      let version : a ≡ entry.1 = one_introduction apis order j entry.0 a entry.1 at_j (any_stands (SpellsPair apis paired.1 s) apis entry)
      (named_of (subject entry.1) s pair.spelling ∙ sym (named_of (subject a) s spelling.1)) is pair.pair.version.introduces in
      let dated : s.since ≡ max f.since a.since = pair.dated ∙ ap (λ (g : Field). max g.since entry.1.since) (sym field) ∙ ap (λ (b : ApiEntry). max f.since b.since) (sym version) in
      omega arith

  spelled_cut : Each StandsInOrder apis → Each (BelongsToResource first apis) fields → Each (SpellsPairOnce apis fields) spells → (i j : ℕ) (f : Field) (a : ApiEntry) → slice_get fields i ≡ Some f → slice_get apis j ≡ Some a
      → f.since ≤ o → a.since ≤ o → IntroducesVersionOf f.group f.resource a → Any (IsSpelling f (subject a)) spells → Any (IsSpelling f (subject a)) (spells_by spells o)
  spelled_cut order belong once i j f a at_i at_j field_by version_by introduces spelled =
      let P : Spell → Type 0 = IsSpelling f (subject a) in
      let by : spelled.1.since ≤ o = dated_by order belong i j f a spelled.1 at_i at_j introduces.introduces spelled.4 field_by version_by (once spelled.0 spelled.1 (any_stands P spells spelled)).paired in
      Any-from P (spells_by spells o) spelled.1 (Contains-filter (λ (s : Spell). nat_le s.since o) spells spelled.1 (spelled.0, spelled.2, spelled.3) (le-leb spelled.1.since o by)) spelled.4

  -- HR14, of a field
  pub spelled_throughout_cut : Each StandsInOrder apis → Each (BelongsToResource first apis) fields → Each (SpellsPairOnce apis fields) spells → Each (IsSpelledThroughout apis spells) fields → Each (IsSpelledThroughout (apis_by apis o) (spells_by spells o)) (fields_by fields o)
  spelled_throughout_cut order belong once =
      each_kept (IsSpelledThroughout apis spells) (IsSpelledThroughout (apis_by apis o) (spells_by spells o)) (λ x. nat_le x.since o) fields
      (λ (i : ℕ) (f : Field) (at_i : slice_get fields i ≡ Some f) (passes : nat_le f.since o ≡ true) (keeps : IsSpelledThroughout apis spells (take i fields) f).
      all_kept (λ a. IsPair (apis_by apis o) f a → Any (IsSpelling f (subject a)) (spells_by spells o)) (λ a. nat_le a.since o) apis
      (λ (j : ℕ) (a : ApiEntry) (at_j : slice_get apis j ≡ Some a) (known : nat_le a.since o ≡ true) (pair : IsPair (apis_by apis o) f a).
      spelled_cut order belong once i j f a at_i at_j (leb-true f.since o passes) (leb-true a.since o known) pair.version
      (each_at (λ b. IsPair apis f b → Any (IsSpelling f (subject b)) spells) apis j a at_j keeps (pair_whole f a (leb-true f.since o passes) pair))))

  pairs_cut : (s : Spell) (f : Field) → s.since ≤ o → Any (SpellsPair apis f s) apis → Any (SpellsPair (apis_by apis o) f s) (apis_by apis o)
  pairs_cut s f by pairs =
      any_kept (SpellsPair (apis_by apis o) f s) (λ a. nat_le a.since o) apis
      (λ (a : ApiEntry) (p : SpellsPair (apis_by apis o) f s a). let dated : s.since ≡ max f.since a.since = p.dated in le-leb a.since o (omega arith))
      (Any-weaker (SpellsPair apis f s) (SpellsPair (apis_by apis o) f s) apis (λ (a : ApiEntry) (p : SpellsPair apis f s a). record { pair = pair_cut f a p.pair; spelling = p.spelling; dated = p.dated }) pairs)

  field_dated : (s : Spell) (f : Field) → s.since ≤ o → Any (SpellsPair (apis_by apis o) f s) (apis_by apis o) → f.since ≤ o
  field_dated s f by pairs =
      let p : SpellsPair (apis_by apis o) f s pairs.1 = pairs.4 in
      let dated : s.since ≡ max f.since pairs.1.since = p.dated in
      omega arith

  paired_cut : (s : Spell) → s.since ≤ o → IsPaired apis fields s → IsPaired (apis_by apis o) (fields_by fields o) s
  paired_cut s by paired =
      any_kept (λ f. IsOfField f s × Any (SpellsPair (apis_by apis o) f s) (apis_by apis o)) (λ f. nat_le f.since o) fields
      (λ (f : Field) (h : IsOfField f s × Any (SpellsPair (apis_by apis o) f s) (apis_by apis o)). le-leb f.since o (field_dated s f by h.1))
      (Any-weaker (λ f. IsOfField f s × Any (SpellsPair apis f s) apis) (λ f. IsOfField f s × Any (SpellsPair (apis_by apis o) f s) (apis_by apis o)) fields
      (λ (f : Field) (h : IsOfField f s × Any (SpellsPair apis f s) apis). (h.0, pairs_cut s f by h.1)) paired)

  -- HR14, of a spelling
  pub spelled_once_cut : Each (SpellsPairOnce apis fields) spells → Each (SpellsPairOnce (apis_by apis o) (fields_by fields o)) (spells_by spells o)
  spelled_once_cut =
      each_kept (SpellsPairOnce apis fields) (SpellsPairOnce (apis_by apis o) (fields_by fields o)) (λ x. nat_le x.since o) spells
      (λ (j : ℕ) (s : Spell) (sx : slice_get spells j ≡ Some s) (passes : nat_le s.since o ≡ true) (keeps : SpellsPairOnce apis fields (take j spells) s). record {
        paired = paired_cut s (leb-true s.since o passes) keeps.paired;
        single = All-filter (λ t. nat_le t.since o) (λ t. ¬ AreOfOnePair s t) (take j spells) keeps.single;
      })

  -- HR15
  pub own_paths_cut : Each HasOwnPath spells → Each HasOwnPath (spells_by spells o)
  own_paths_cut =
      each_kept HasOwnPath HasOwnPath (λ x. nat_le x.since o) spells
      (λ (j : ℕ) (s : Spell) (sx : slice_get spells j ≡ Some s) (passes : nat_le s.since o ≡ true) (keeps : HasOwnPath (take j spells) s). record {
        free = keeps.free;
        apart = All-filter (λ t. nat_le t.since o) (λ t. AreForOneVersion s t → AreApart s.path t.path) (take j spells) keeps.apart;
      })

  -- HR16
  pub fields_fit_cut : Each (FitsField fields) spells → Each (FitsField (fields_by fields o)) (spells_by spells o)
  fields_fit_cut =
      each_kept (FitsField fields) (FitsField (fields_by fields o)) (λ x. nat_le x.since o) spells
      (λ j s sx passes keeps. All-filter (λ f. nat_le f.since o) (λ f. IsOfField f s → FitsType f.ty s.form s.default) fields keeps)
