-- Fields and spellings where a history is folded: which rules are kept.
use Rattle.std.proofs.Common.{ℕ, ◌≡◌, ◌+◌, ◌≤◌, not, List, true, Option, Some, None, max, take, sym, ap, subst, ◌∙◌, arith, inl, inr}
use Rattle.std.specs.Prelude.{slice_get, Any, IfSome}
use Rattle.std.proofs.lemmas.Bool.{cases_Bool, not_from_false}
use Rattle.std.proofs.lemmas.List.Elements.{All-filter}
use Rattle.basis.proofs.ElementLemmas.{Any-from, Any-weaker}
use Rattle.basis.proofs.FilterLemmas.{Contains-filter}
use Rattle.fields.specs.Table.{AreApart}
use Rattle.fields.specs.declared.field.Field.{Field}
use Rattle.fields.specs.declared.field.Spell.{Spell}
use Rattle.gate_spec.specs.declared.entry.GateEntry.{GateEntry}
use Rattle.lifecycle.specs.Entry.{GroupVersionResource, subject, IsIntroduction, IsRemoval, IsKnownOf, IsLive}
use Rattle.lifecycle.specs.declared.entry.ApiChange.{ApiChange}
use Rattle.lifecycle.specs.declared.entry.ApiChange.TheVariants.{Introduced, Deprecated, Removed, Forgotten}
use Rattle.lifecycle.specs.declared.entry.ApiEntry.{ApiEntry}
use Rattle.lifecycle.proofs.TableLemmas.{subject_is}
use Rattle.schemas.specs.ApiRules.{is_of_version, previous_of_version, name_of, IsForgetting, IsForgotten, IsPlanned, IsKept, IsLateAfter, IsForgottenLate}
use Rattle.schemas.specs.Dated.{Dated}
use Rattle.schemas.specs.FieldRules.{begins_at, BelongsToResource, IsRequiredFairly, HasKnownGate, IsSpelledThroughout}
use Rattle.schemas.specs.Laws.{IsKindLive}
use Rattle.schemas.specs.Pairs.{IntroducesVersionOf, IsPair, IsOfField, IsOfVersion, IsSpelling, SpellsPair, IsPaired, AreForOneVersion, AreOfOnePair}
use Rattle.schemas.specs.Places.{Each}
use Rattle.schemas.specs.Rules.{IsSpellBy, IsAccepted, last_of}
use Rattle.schemas.specs.SpellRules.{SpellsPairOnce, HasOwnPath, FitsField}
use Rattle.schemas.proofs.AcceptedLemmas as hr
use Rattle.schemas.proofs.DecodableLemmas.{decodable_dated}
use Rattle.schemas.proofs.FieldLawLemmas.{each_at, stays_decodable}
use Rattle.schemas.proofs.LawLemmas.{any_stands, kinds_stay_live}
use Rattle.schemas.proofs.PreviousLemmas.{IsLast}
use Rattle.history_cut.proofs.ApiOrderLemmas.{previous_is}
use Rattle.history_cut.proofs.KeptLemmas.{each_kept, all_kept, any_kept}
use Rattle.history_fold.specs.Folded.{is_forgotten, version_of, gates_from, apis_from, spells_from}
use Rattle.history_fold.proofs.ApiFoldLemmas.{forgotten_said, stays_said, stays_tested, forgotten_later, entry_stays, change_stays, change_there}
use Rattle.history_fold.proofs.GateFoldLemmas.{known_stays}

-- ---- a kind of which a version is forgotten is live

late_of : (all : List ApiEntry) (previous : Option ApiEntry) (x : ApiEntry) (change : ApiChange) → IsForgetting change → IsForgottenLate all previous x change → IsLateAfter previous x.since
late_of all previous x (Introduced kind singular namespaced enabled) is rule = absurd is
late_of all previous x (Deprecated removal replacement) is rule = absurd is
late_of all previous x Removed is rule = absurd is
late_of all previous x Forgotten is rule = rule.0

replaced : (all : List ApiEntry) (x : ApiEntry) (change : ApiChange) → IsPlanned all x change → (version : List ℕ) × IsLive all (name_of x.group version x.resource) x.since
replaced all x (Introduced kind singular namespaced enabled) h = absurd h
replaced all x (Deprecated removal replacement) h = (replacement, h.1)
replaced all x Removed h = absurd h
replaced all x Forgotten h = absurd h

replaced_after : (all : List ApiEntry) (last : ℕ) (x : ApiEntry) (previous : Option ApiEntry) (change : ApiChange) → IsRemoval change → IsKept all last previous x change → (version : List ℕ) × IsLive all (name_of x.group version x.resource) x.since
replaced_after all last x previous (Introduced kind singular namespaced enabled) h rule = absurd h
replaced_after all last x previous (Deprecated removal replacement) h rule = absurd h
replaced_after all last x (Some y) Removed h rule = replaced all x y.change rule
replaced_after all last x None Removed h rule = absurd rule
replaced_after all last x previous Forgotten h rule = absurd h

module _ (h : Dated) (accepted : IsAccepted h) where
  -- at its removal another version of the kind was live
  live_from_removal : (e j : ℕ) (x : ApiEntry) → x.since ≤ e → (found : Option ApiEntry) → IsLast (is_of_version x) h.apis j found → IsLateAfter found x.since → IsKindLive h x.group x.resource e
  live_from_removal e j x by None last late = absurd late
  live_from_removal e j x by (Some y) last late =
      let named : subject x ≡ subject y = subject_is (subject y) x last.passes in
      let before : y.since + 3 ≤ x.since = late.1 in
      let live : IsKindLive h y.group y.resource y.since =
      replaced_after h.apis (last_of h) y (previous_of_version (take last.place h.apis) y) y.change late.0 ((hr.removals_planned h accepted) last.place y last.stands) in
      let later : IsKindLive h y.group y.resource e = (kinds_stay_live h accepted) y.group y.resource y.since e (omega arith) live in
      subst (λ (n : GroupVersionResource). IsKindLive h n.group n.resource e) (sym named) later

  forgotten_kind_lives : (name : GroupVersionResource) (e : ℕ) → IsForgotten h.apis name e → IsKindLive h name.group name.resource e
  forgotten_kind_lives name e forgotten =
      let P : ApiEntry → Type 0 = λ x. IsKnownOf name e x × IsForgetting x.change in
      let x : ApiEntry = forgotten.1 in
      let known : IsKnownOf name e x = forgotten.4.0 in
      let sx = any_stands P h.apis forgotten in
      let live : IsKindLive h x.group x.resource e =
      live_from_removal e forgotten.0 x known.dated (previous_of_version (take forgotten.0 h.apis) x) (previous_is h.apis (hr.versions_in_order h accepted) forgotten.0 x sx)
      (late_of h.apis (previous_of_version (take forgotten.0 h.apis) x) x x.change forgotten.4.1 ((hr.forgettings_late h accepted) forgotten.0 x sx)) in
      subst (λ (g : List ℕ). IsKindLive h g name.resource e) known.group (subst (λ (r : List ℕ). IsKindLive h x.group r e) known.resource live)

  -- what is live isn't forgotten
  pub live_stays : (name : GroupVersionResource) (m e : ℕ) → m ≤ e → IsLive h.apis name e → ¬ IsForgotten h.apis name m
  live_stays name m e within live forgotten =
      let decodes = (stays_decodable h.apis (hr.forgettings_late h accepted)) name e e (omega arith) (omega arith) live in
      ((decodable_dated h.apis name e).0 decodes).1 (forgotten_later h.apis name m e within forgotten)

  -- a kind that is live from the floor on has a version that stays
  live_version_stays : (floor e : ℕ) (group resource : List ℕ) → floor ≤ e → IsKindLive h group resource e → Any (λ a. IntroducesVersionOf group resource a × (a.since ≤ e)) (apis_from h.apis floor)
  live_version_stays floor e group resource from live =
      let name : GroupVersionResource = name_of group live.0 resource in
      Any-weaker (λ a. IsKnownOf name e a × IsIntroduction a.change) (λ a. IntroducesVersionOf group resource a × (a.since ≤ e)) (apis_from h.apis floor)
      (λ (a : ApiEntry) (known : IsKnownOf name e a × IsIntroduction a.change). (record { of_group = known.0.group; of_resource = known.0.resource; introduces = known.1 }, known.0.dated))
      (change_stays h.apis floor IsIntroduction name e (live_stays name floor e from live.1) live.1.0)

  -- HR11: a version of the field's resource is introduced when the field begins
  versioned_folded : (first floor : ℕ) → first ≤ floor → (x : Field) → Any (λ a. IntroducesVersionOf x.group x.resource a × (a.since ≤ begins_at first x)) h.apis
      → Any (λ a. IntroducesVersionOf x.group x.resource a × (a.since ≤ begins_at floor x)) (apis_from h.apis floor)
  versioned_folded first floor from x some =
      let P : ApiEntry → Type 0 = λ a. IntroducesVersionOf x.group x.resource a × (a.since ≤ begins_at floor x) in
      let a : ApiEntry = some.1 in
      let introduces : IntroducesVersionOf x.group x.resource a = some.4.0 in
      let dated : a.since ≤ max x.since first = some.4.1 in
      let by : a.since ≤ max x.since floor = omega arith in
      let above : floor ≤ max x.since floor = omega arith in
      elim (cases_Bool (is_forgotten h.apis floor (subject a))) [
        | inr stays ↦ Any-from P (apis_from h.apis floor) a (Contains-filter (λ b. not (is_forgotten h.apis floor (subject b))) h.apis a (some.0, some.2, some.3) (not_from_false (is_forgotten h.apis floor (subject a)) stays)) (introduces, by)
        | inl gone ↦
            let live : IsKindLive h a.group a.resource floor = forgotten_kind_lives (subject a) floor ((forgotten_said h.apis floor (subject a)).0 gone) in
            let named : IsKindLive h x.group x.resource floor = subst (λ (g : List ℕ). IsKindLive h g x.resource floor) introduces.of_group (subst (λ (r : List ℕ). IsKindLive h a.group r floor) introduces.of_resource live) in
            live_version_stays floor (begins_at floor x) x.group x.resource above ((kinds_stay_live h accepted) x.group x.resource floor (begins_at floor x) above named)
      ]

  -- HR11
  pub fields_belong_folded : (first floor : ℕ) → first ≤ floor → Each (BelongsToResource first h.apis) h.fields → Each (BelongsToResource floor (apis_from h.apis floor)) h.fields
  fields_belong_folded first floor from all = λ (j : ℕ) (x : Field) (sx : slice_get h.fields j ≡ Some x).
      let keeps : BelongsToResource first h.apis (take j h.fields) x = all j x sx in
      record { once = keeps.once; few = keeps.few; versioned = versioned_folded first floor from x keeps.versioned }

-- ---- fields

-- HR12
pub required_fairly_folded : (apis : List ApiEntry) (fields : List Field) (floor : ℕ) → Each (IsRequiredFairly apis) fields → Each (IsRequiredFairly (apis_from apis floor)) fields
required_fairly_folded apis fields floor all = λ (j : ℕ) (x : Field) (sx : slice_get fields j ≡ Some x) (required : x.required ≡ true). record {
  unguarded = (all j x sx required).unguarded;
  from_start = All-filter (λ a. not (is_forgotten apis floor (subject a))) (λ a. IntroducesVersionOf x.group x.resource a → x.since ≤ a.since) apis (all j x sx required).from_start;
}

gate_known_folded : (gates : List GateEntry) (first floor : ℕ) → first ≤ floor → (x : Field) (gate : Option (List ℕ)) → IfSome gate (λ name. Any (λ y. (y.name ≡ name) × (y.since ≤ begins_at first x)) gates)
    → IfSome gate (λ name. Any (λ y. (y.name ≡ name) × (y.since ≤ begins_at floor x)) (gates_from gates floor))
gate_known_folded gates first floor from x None known = tt
gate_known_folded gates first floor from x (Some name) known =
    let above : floor ≤ max x.since floor = omega arith in
    known_stays gates floor name (begins_at floor x) above
    (Any-weaker (λ y. (y.name ≡ name) × (y.since ≤ begins_at first x)) (λ y. (y.name ≡ name) × (y.since ≤ begins_at floor x)) gates
    (λ (y : GateEntry) (k : (y.name ≡ name) × (y.since ≤ begins_at first x)). (k.0, (let dated : y.since ≤ max x.since first = k.1 in omega arith))) known)

-- HR13
pub gates_known_folded : (gates : List GateEntry) (fields : List Field) (first floor : ℕ) → first ≤ floor → Each (HasKnownGate first gates) fields → Each (HasKnownGate floor (gates_from gates floor)) fields
gates_known_folded gates fields first floor from all = λ (j : ℕ) (x : Field) (sx : slice_get fields j ≡ Some x). gate_known_folded gates first floor from x x.gate (all j x sx)

-- ---- spellings

module _ (apis : List ApiEntry) (fields : List Field) (spells : List Spell) (floor : ℕ) where
  named_of : (name : GroupVersionResource) (s : Spell) → IsOfVersion name s → version_of s ≡ name
  named_of name s v = λ i. name_of (sym v.group i) (sym v.version i) (sym v.resource i)

  pub spell_stays : (name : GroupVersionResource) (s : Spell) → ¬ IsForgotten apis name floor → IsOfVersion name s → not (is_forgotten apis floor (version_of s)) ≡ true
  spell_stays name s none of = ap (λ (n : GroupVersionResource). not (is_forgotten apis floor n)) (named_of name s of) ∙ stays_tested apis floor name none

  pair_folded : (f : Field) (a : ApiEntry) → IsPair apis f a → IsPair (apis_from apis floor) f a
  pair_folded f a pair = record { version = pair.version; kept = λ forgotten. pair.kept (change_there apis floor IsForgetting (subject a) f.since forgotten) }

  pair_whole : (f : Field) (a : ApiEntry) → ¬ IsForgotten apis (subject a) floor → IsPair (apis_from apis floor) f a → IsPair apis f a
  pair_whole f a none pair = record { version = pair.version; kept = λ forgotten. pair.kept (change_stays apis floor IsForgetting (subject a) f.since none forgotten) }

  -- HR2
  pub spells_dated : (last : ℕ) → Each (IsSpellBy last) spells → Each (IsSpellBy last) (spells_from apis spells floor)
  spells_dated last = each_kept (IsSpellBy last) (IsSpellBy last) (λ s. not (is_forgotten apis floor (version_of s))) spells (λ j s sx passes keeps. keeps)

  -- HR14, of a field
  pub spelled_throughout_folded : Each (IsSpelledThroughout apis spells) fields → Each (IsSpelledThroughout (apis_from apis floor) (spells_from apis spells floor)) fields
  spelled_throughout_folded all = λ (i : ℕ) (f : Field) (at_i : slice_get fields i ≡ Some f).
      all_kept (λ a. IsPair (apis_from apis floor) f a → Any (IsSpelling f (subject a)) (spells_from apis spells floor)) (λ a. not (is_forgotten apis floor (subject a))) apis
      (λ (j : ℕ) (a : ApiEntry) (at_j : slice_get apis j ≡ Some a) (passes : not (is_forgotten apis floor (subject a)) ≡ true) (pair : IsPair (apis_from apis floor) f a).
      let none : ¬ IsForgotten apis (subject a) floor = stays_said apis floor (subject a) passes in
      any_kept (IsSpelling f (subject a)) (λ s. not (is_forgotten apis floor (version_of s))) spells (λ (s : Spell) (is : IsSpelling f (subject a) s). spell_stays (subject a) s none is.1)
      (each_at (λ b. IsPair apis f b → Any (IsSpelling f (subject b)) spells) apis j a at_j (all i f at_i) (pair_whole f a none pair)))

  pairs_folded : (s : Spell) (f : Field) → ¬ IsForgotten apis (version_of s) floor → Any (SpellsPair apis f s) apis → Any (SpellsPair (apis_from apis floor) f s) (apis_from apis floor)
  pairs_folded s f none pairs =
      any_kept (SpellsPair (apis_from apis floor) f s) (λ a. not (is_forgotten apis floor (subject a))) apis
      (λ (a : ApiEntry) (p : SpellsPair (apis_from apis floor) f s a). entry_stays apis floor (version_of s) a none (sym (named_of (subject a) s p.spelling)))
      (Any-weaker (SpellsPair apis f s) (SpellsPair (apis_from apis floor) f s) apis (λ (a : ApiEntry) (p : SpellsPair apis f s a). record { pair = pair_folded f a p.pair; spelling = p.spelling; dated = p.dated }) pairs)

  paired_folded : (s : Spell) → ¬ IsForgotten apis (version_of s) floor → IsPaired apis fields s → IsPaired (apis_from apis floor) fields s
  paired_folded s none =
      Any-weaker (λ f. IsOfField f s × Any (SpellsPair apis f s) apis) (λ f. IsOfField f s × Any (SpellsPair (apis_from apis floor) f s) (apis_from apis floor)) fields
      (λ (f : Field) (k : IsOfField f s × Any (SpellsPair apis f s) apis). (k.0, pairs_folded s f none k.1))

  -- HR14, of a spelling
  pub spelled_once_folded : Each (SpellsPairOnce apis fields) spells → Each (SpellsPairOnce (apis_from apis floor) fields) (spells_from apis spells floor)
  spelled_once_folded =
      each_kept (SpellsPairOnce apis fields) (SpellsPairOnce (apis_from apis floor) fields) (λ s. not (is_forgotten apis floor (version_of s))) spells
      (λ (j : ℕ) (s : Spell) (sx : slice_get spells j ≡ Some s) (passes : not (is_forgotten apis floor (version_of s)) ≡ true) (keeps : SpellsPairOnce apis fields (take j spells) s). record {
        paired = paired_folded s (stays_said apis floor (version_of s) passes) keeps.paired;
        single = All-filter (λ t. not (is_forgotten apis floor (version_of t))) (λ t. ¬ AreOfOnePair s t) (take j spells) keeps.single;
      })

  -- HR15
  pub own_paths_folded : Each HasOwnPath spells → Each HasOwnPath (spells_from apis spells floor)
  own_paths_folded =
      each_kept HasOwnPath HasOwnPath (λ s. not (is_forgotten apis floor (version_of s))) spells
      (λ (j : ℕ) (s : Spell) (sx : slice_get spells j ≡ Some s) (passes : not (is_forgotten apis floor (version_of s)) ≡ true) (keeps : HasOwnPath (take j spells) s). record {
        free = keeps.free;
        apart = All-filter (λ t. not (is_forgotten apis floor (version_of t))) (λ t. AreForOneVersion s t → AreApart s.path t.path) (take j spells) keeps.apart;
      })

  -- HR16
  pub fields_fit_folded : Each (FitsField fields) spells → Each (FitsField fields) (spells_from apis spells floor)
  fields_fit_folded = each_kept (FitsField fields) (FitsField fields) (λ s. not (is_forgotten apis floor (version_of s))) spells (λ j s sx passes keeps. keeps)
