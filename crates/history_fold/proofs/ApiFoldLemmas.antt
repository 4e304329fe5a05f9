-- Versions where a history is folded: what stays, and which rules are kept.
use Rattle.std.proofs.Common.{ℕ, ◌≡◌, ◌↔◌, ◌<◌, ◌≤◌, not, List, true, Option, Some, None, Contains, filter, take, refl, sym, ap, subst, ◌∙◌, arith}
use Rattle.std.specs.Prelude.{slice_get, Any, IsSomeAnd}
use Rattle.std.proofs.lemmas.Bool.{both_ways, not-true, not_from_false, false_from_ne_true, false≢true}
use Rattle.std.proofs.lemmas.List.Elements.{All-filter, All-contains}
use Rattle.basis.proofs.ElementLemmas.{Any-weaker}
use Rattle.basis.proofs.FilterLemmas.{Any-from_filter, Contains-from_filter, passes_from_filter}
use Rattle.lifecycle.specs.Entry.{GroupVersionResource, subject, IsIntroduction, IsRemoval, IsKnownOf, IsLive}
use Rattle.lifecycle.specs.Tables.{is_forgetting}
use Rattle.lifecycle.specs.declared.entry.ApiChange.{ApiChange}
use Rattle.lifecycle.specs.declared.entry.ApiChange.TheVariants.{Introduced, Deprecated, Removed, Forgotten}
use Rattle.lifecycle.specs.declared.entry.ApiEntry.{ApiEntry}
use Rattle.lifecycle.proofs.TableLemmas.{has_change-cutoff, change_dated, subject_is}
use Rattle.schemas.specs.ApiRules.{is_of_version, previous_of_version, name_of, IsForgetting, IsForgotten, IsNext, StandsInOrder, KeepKindsApart, NamesItsKind, IsFairChange, DeprecatesFairly, IsPlanned, IsKept, KeepsPlan, IsInFavourOf, IsForgottenBefore, AreForgottenFirst, IsForgottenLate, ForgetsLate}
use Rattle.schemas.specs.Places.{Each}
use Rattle.schemas.specs.Rules.{IsApiBy}
use Rattle.schemas.proofs.FieldLawLemmas.{each_at}
use Rattle.schemas.proofs.LawLemmas.{any_stands}
use Rattle.schemas.proofs.PreviousLemmas.{IsLast}
use Rattle.history_cut.proofs.ApiOrderLemmas.{previous_is}
use Rattle.history_cut.proofs.KeptLemmas.{each_kept, all_before, last_kept, any_kept}
use Rattle.history_fold.specs.Folded.{is_forgotten, apis_from}
use Rattle.history_fold.proofs.ListLemmas.{all_from}

-- ---- what is forgotten

forgettings : (c : ApiChange) → (is_forgetting c ≡ true) ↔ IsForgetting c
forgettings (Introduced kind singular namespaced enabled) = ((λ h. absurd (false≢true h)), (λ h. absurd h))
forgettings (Deprecated removal replacement) = ((λ h. absurd (false≢true h)), (λ h. absurd h))
forgettings Removed = ((λ h. absurd (false≢true h)), (λ h. absurd h))
forgettings Forgotten = ((λ h. tt), (λ h. refl))

pub forgotten_said : (apis : List ApiEntry) (floor : ℕ) (name : GroupVersionResource) → (is_forgotten apis floor name ≡ true) ↔ IsForgotten apis name floor
forgotten_said apis floor name =
    let dated = change_dated name floor is_forgetting IsForgetting apis forgettings in
    let same = has_change-cutoff is_forgetting apis floor name in
    (λ h. dated.0 (same ∙ h), λ h. sym same ∙ dated.1 h)

pub stays_said : (apis : List ApiEntry) (floor : ℕ) (name : GroupVersionResource) → not (is_forgotten apis floor name) ≡ true → ¬ IsForgotten apis name floor
stays_said apis floor name h is = both_ways (is_forgotten apis floor name) (not-true (is_forgotten apis floor name) h) ((forgotten_said apis floor name).1 is)

pub stays_tested : (apis : List ApiEntry) (floor : ℕ) (name : GroupVersionResource) → ¬ IsForgotten apis name floor → not (is_forgotten apis floor name) ≡ true
stays_tested apis floor name none = not_from_false (is_forgotten apis floor name) (false_from_ne_true (is_forgotten apis floor name) (λ h. none ((forgotten_said apis floor name).0 h)))

pub named_by : (name : GroupVersionResource) (e : ℕ) (x : ApiEntry) → IsKnownOf name e x → subject x ≡ name
named_by name e x k = λ i. name_of (k.group i) (k.version i) (k.resource i)

-- what is forgotten stays so
pub forgotten_later : (apis : List ApiEntry) (name : GroupVersionResource) (m e : ℕ) → m ≤ e → IsForgotten apis name m → IsForgotten apis name e
forgotten_later apis name m e later = Any-weaker (λ x. IsKnownOf name m x × IsForgetting x.change) (λ x. IsKnownOf name e x × IsForgetting x.change) apis
    (λ x (w : IsKnownOf name m x × IsForgetting x.change). (record { group = w.0.group; version = w.0.version; resource = w.0.resource; dated = (let d : x.since ≤ m = w.0.dated in omega arith) }, w.1))

-- HR10
late_of : (all : List ApiEntry) (previous : Option ApiEntry) (x : ApiEntry) (change : ApiChange) → IsForgetting change → IsForgottenLate all previous x change → AreForgottenFirst all x
late_of all previous x (Introduced kind singular namespaced enabled) is rule = absurd is
late_of all previous x (Deprecated removal replacement) is rule = absurd is
late_of all previous x Removed is rule = absurd is
late_of all previous x Forgotten is rule = rule.1

module _ (apis : List ApiEntry) (floor : ℕ) where
  pub entry_stays : (name : GroupVersionResource) (x : ApiEntry) → ¬ IsForgotten apis name floor → subject x ≡ name → not (is_forgotten apis floor (subject x)) ≡ true
  entry_stays name x none same = ap (λ (n : GroupVersionResource). not (is_forgotten apis floor n)) same ∙ stays_tested apis floor name none

  -- a change of a version that isn't forgotten by the floor stays
  pub change_stays : (Is : ApiChange → Type 0) (name : GroupVersionResource) (e : ℕ) → ¬ IsForgotten apis name floor → Any (λ x. IsKnownOf name e x × Is x.change) apis → Any (λ x. IsKnownOf name e x × Is x.change) (apis_from apis floor)
  change_stays Is name e none =
      any_kept (λ x. IsKnownOf name e x × Is x.change) (λ x. not (is_forgotten apis floor (subject x))) apis
      (λ (x : ApiEntry) (known : IsKnownOf name e x × Is x.change). entry_stays name x none (named_by name e x known.0))

  pub change_there : (Is : ApiChange → Type 0) (name : GroupVersionResource) (e : ℕ) → Any (λ x. IsKnownOf name e x × Is x.change) (apis_from apis floor) → Any (λ x. IsKnownOf name e x × Is x.change) apis
  change_there Is name e = Any-from_filter (λ x. IsKnownOf name e x × Is x.change) (λ x. not (is_forgotten apis floor (subject x))) apis

  live_stays : (name : GroupVersionResource) (e : ℕ) → ¬ IsForgotten apis name floor → IsLive apis name e → IsLive (apis_from apis floor) name e
  live_stays name e none live = (change_stays IsIntroduction name e none live.0, λ removed. live.1 (change_there IsRemoval name e removed))

  same_previous : (j : ℕ) (x : ApiEntry) → not (is_forgotten apis floor (subject x)) ≡ true → previous_of_version (filter (λ y. not (is_forgotten apis floor (subject y))) (take j apis)) x ≡ previous_of_version (take j apis) x
  same_previous j x passes =
      last_kept (is_of_version x) (λ y. not (is_forgotten apis floor (subject y))) (take j apis)
      (all_before (λ y. is_of_version x y ≡ true → not (is_forgotten apis floor (subject y)) ≡ true) apis j (λ (k : ℕ) (y : ApiEntry) (less : k < j) (sy : slice_get apis k ≡ Some y) (same : is_of_version x y ≡ true).
      ap (λ (n : GroupVersionResource). not (is_forgotten apis floor n)) (sym (subject_is (subject y) x same)) ∙ passes))

  -- HR2
  pub apis_dated : (last : ℕ) → Each (IsApiBy last) apis → Each (IsApiBy last) (apis_from apis floor)
  apis_dated last = each_kept (IsApiBy last) (IsApiBy last) (λ x. not (is_forgotten apis floor (subject x))) apis (λ j x sx passes keeps. keeps)

  -- HR6
  pub order_folded : Each StandsInOrder apis → Each StandsInOrder (apis_from apis floor)
  order_folded = each_kept StandsInOrder StandsInOrder (λ x. not (is_forgotten apis floor (subject x))) apis (λ j x sx passes keeps. subst (λ (p : Option ApiEntry). IsNext p x.since x.change) (sym (same_previous j x passes)) keeps)

  -- HR7
  pub kinds_folded : Each NamesItsKind apis → Each NamesItsKind (apis_from apis floor)
  kinds_folded = each_kept NamesItsKind NamesItsKind (λ x. not (is_forgotten apis floor (subject x))) apis (λ j x sx passes keeps. (keeps.0, All-filter (λ y. not (is_forgotten apis floor (subject y))) (KeepKindsApart x) (take j apis) keeps.1))

  -- a version in favour of which one is deprecated that stays, stays (HR10)
  replacement_stays : Each (ForgetsLate apis) apis → (i : ℕ) (y : ApiEntry) → slice_get apis i ≡ Some y → (removal : ℕ) (replacement : List ℕ) → y.change ≡ Deprecated removal replacement
      → ¬ IsForgotten apis (subject y) floor → ¬ IsForgotten apis (name_of y.group replacement y.resource) floor
  replacement_stays late i y sy removal replacement is none forgotten =
      let P : ApiEntry → Type 0 = λ z. IsKnownOf (name_of y.group replacement y.resource) floor z × IsForgetting z.change in
      let z : ApiEntry = forgotten.1 in
      let known : IsKnownOf (name_of y.group replacement y.resource) floor z = forgotten.4.0 in
      let sz : slice_get apis forgotten.0 ≡ Some z = any_stands P apis forgotten in
      let first : AreForgottenFirst apis z = late_of apis (previous_of_version (take forgotten.0 apis) z) z z.change forgotten.4.1 (late forgotten.0 z sz) in
      let before : IsForgottenBefore apis z y = each_at (IsForgottenBefore apis z) apis i y sy first in
      none (forgotten_later apis (subject y) z.since floor known.dated (before (subst (λ (c : ApiChange). IsInFavourOf z y c) (sym is) (known.group, known.version, known.resource))))

  fair_folded : (x : ApiEntry) (change : ApiChange) → ((removal : ℕ) (replacement : List ℕ) → change ≡ Deprecated removal replacement → ¬ IsForgotten apis (name_of x.group replacement x.resource) floor)
      → IsFairChange apis x change → IsFairChange (apis_from apis floor) x change
  fair_folded x (Introduced kind singular namespaced enabled) other rule = tt
  fair_folded x (Deprecated removal replacement) other rule = record {
    own = rule.own;
    other = rule.other;
    own_word = rule.own_word;
    other_word = rule.other_word;
    fair = record {
      notice = rule.fair.notice;
      another = rule.fair.another;
      level = rule.fair.level;
      introduced = change_stays IsIntroduction (name_of x.group replacement x.resource) x.since (other removal replacement refl) rule.fair.introduced;
    };
  }
  fair_folded x Removed other rule = tt
  fair_folded x Forgotten other rule = tt

  -- HR8
  pub deprecations_fair_folded : Each (ForgetsLate apis) apis → Each (DeprecatesFairly apis) apis → Each (DeprecatesFairly (apis_from apis floor)) (apis_from apis floor)
  deprecations_fair_folded late =
      each_kept (DeprecatesFairly apis) (DeprecatesFairly (apis_from apis floor)) (λ x. not (is_forgotten apis floor (subject x))) apis
      (λ (j : ℕ) (x : ApiEntry) (sx : slice_get apis j ≡ Some x) (passes : not (is_forgotten apis floor (subject x)) ≡ true) (keeps : DeprecatesFairly apis (take j apis) x).
      fair_folded x x.change (λ removal replacement is. replacement_stays late j x sx removal replacement is (stays_said apis floor (subject x) passes)) keeps)

  planned_folded : (x y : ApiEntry) (change : ApiChange) → ((removal : ℕ) (replacement : List ℕ) → change ≡ Deprecated removal replacement → ¬ IsForgotten apis (name_of x.group replacement x.resource) floor)
      → IsPlanned apis x change → IsPlanned (apis_from apis floor) x change
  planned_folded x y (Introduced kind singular namespaced enabled) other rule = absurd rule
  planned_folded x y (Deprecated removal replacement) other rule = (rule.0, live_stays (name_of x.group replacement x.resource) x.since (other removal replacement refl) rule.1)
  planned_folded x y Removed other rule = absurd rule
  planned_folded x y Forgotten other rule = absurd rule

  planned_behind : Each (ForgetsLate apis) apis → (j : ℕ) (x : ApiEntry) (found : Option ApiEntry) → IsLast (is_of_version x) apis j found → ¬ IsForgotten apis (subject x) floor
      → IsSomeAnd found (λ y. IsPlanned apis x y.change) → IsSomeAnd found (λ y. IsPlanned (apis_from apis floor) x y.change)
  planned_behind late j x None last none rule = rule
  planned_behind late j x (Some y) last none rule =
      let named : subject x ≡ subject y = subject_is (subject y) x last.passes in
      planned_folded x y y.change
      (λ (removal : ℕ) (replacement : List ℕ) (is : y.change ≡ Deprecated removal replacement).
      subst (λ (n : GroupVersionResource). ¬ IsForgotten apis (name_of n.group replacement n.resource) floor) (sym named)
      (replacement_stays late last.place y last.stands removal replacement is (subst (λ (n : GroupVersionResource). ¬ IsForgotten apis n floor) named none)))
      rule

  kept_folded : Each (ForgetsLate apis) apis → (last j : ℕ) (x : ApiEntry) (change : ApiChange) (found : Option ApiEntry) → IsLast (is_of_version x) apis j found → ¬ IsForgotten apis (subject x) floor
      → IsKept apis last found x change → IsKept (apis_from apis floor) last found x change
  kept_folded late last j x (Introduced kind singular namespaced enabled) found at none rule = tt
  kept_folded late last j x (Deprecated removal replacement) found at none rule = λ within. change_stays IsRemoval (subject x) last none (rule within)
  kept_folded late last j x Removed found at none rule = planned_behind late j x found at none rule
  kept_folded late last j x Forgotten found at none rule = tt

  -- HR9
  pub plan_folded : (last : ℕ) → Each StandsInOrder apis → Each (ForgetsLate apis) apis → Each (KeepsPlan apis last) apis → Each (KeepsPlan (apis_from apis floor) last) (apis_from apis floor)
  plan_folded last order late =
      each_kept (KeepsPlan apis last) (KeepsPlan (apis_from apis floor) last) (λ x. not (is_forgotten apis floor (subject x))) apis
      (λ (j : ℕ) (x : ApiEntry) (sx : slice_get apis j ≡ Some x) (passes : not (is_forgotten apis floor (subject x)) ≡ true) (keeps : KeepsPlan apis last (take j apis) x).
      subst (λ (p : Option ApiEntry). IsKept (apis_from apis floor) last p x x.change) (sym (same_previous j x passes))
      (kept_folded late last j x x.change (previous_of_version (take j apis) x) (previous_is apis order j x sx) (stays_said apis floor (subject x) passes) keeps))

  -- HR10
  forgotten_first_folded : (x : ApiEntry) → AreForgottenFirst apis x → AreForgottenFirst (apis_from apis floor) x
  forgotten_first_folded x first =
      all_from (IsForgottenBefore (apis_from apis floor) x) (apis_from apis floor)
      (λ (y : ApiEntry) (h : Contains (apis_from apis floor) y) (favoured : IsInFavourOf x y y.change).
      change_stays IsForgetting (subject y) x.since (stays_said apis floor (subject y) (passes_from_filter (λ z. not (is_forgotten apis floor (subject z))) apis y h))
      (All-contains (IsForgottenBefore apis x) apis y first (Contains-from_filter (λ z. not (is_forgotten apis floor (subject z))) apis y h) favoured))

  late_folded : (x : ApiEntry) (change : ApiChange) (found : Option ApiEntry) → IsForgottenLate apis found x change → IsForgottenLate (apis_from apis floor) found x change
  late_folded x (Introduced kind singular namespaced enabled) found rule = tt
  late_folded x (Deprecated removal replacement) found rule = tt
  late_folded x Removed found rule = tt
  late_folded x Forgotten found rule = (rule.0, forgotten_first_folded x rule.1)

  pub forgettings_late_folded : Each (ForgetsLate apis) apis → Each (ForgetsLate (apis_from apis floor)) (apis_from apis floor)
  forgettings_late_folded =
      each_kept (ForgetsLate apis) (ForgetsLate (apis_from apis floor)) (λ x. not (is_forgotten apis floor (subject x))) apis
      (λ (j : ℕ) (x : ApiEntry) (sx : slice_get apis j ≡ Some x) (passes : not (is_forgotten apis floor (subject x)) ≡ true) (keeps : ForgetsLate apis (take j apis) x).
      subst (λ (p : Option ApiEntry). IsForgottenLate (apis_from apis floor) p x x.change) (sym (same_previous j x passes)) (late_folded x x.change (previous_of_version (take j apis) x) keeps))
