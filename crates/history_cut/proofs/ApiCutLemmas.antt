-- The rules on versions are kept where a history is cut.
use Rattle.std.proofs.Common.{ℕ, ◌≡◌, ◌<◌, ◌≤◌, List, true, Option, Some, None, take, refl, sym, ap, subst, ◌∙◌, arith}
use Rattle.std.specs.Prelude.{nat_le, slice_get, Any, IsSomeAnd}
use Rattle.std.proofs.lemmas.Bool.{leb-true, le-leb}
use Rattle.std.proofs.lemmas.List.Elements.{All-filter, All-weaker}
use Rattle.basis.proofs.FilterLemmas.{Any-from_filter}
use Rattle.lifecycle.specs.Entry.{GroupVersionResource, subject, IsIntroduction, IsRemoval, IsKnownOf, IsRemoved, IsLive}
use Rattle.lifecycle.specs.Tables.{cutoff}
use Rattle.lifecycle.specs.declared.entry.ApiChange.{ApiChange}
use Rattle.lifecycle.specs.declared.entry.ApiChange.TheVariants.{Introduced, Deprecated, Removed, Forgotten}
use Rattle.lifecycle.specs.declared.entry.ApiEntry.{ApiEntry}
use Rattle.lifecycle.proofs.TableLemmas.{subject_is}
use Rattle.schemas.specs.ApiRules.{is_of_version, previous_of_version, name_of, IsDeprecation, IsForgetting, IsNext, StandsInOrder, KeepKindsApart, NamesItsKind, IsFairChange, DeprecatesFairly, IsPlanned, IsKept, KeepsPlan, IsForgottenBefore, AreForgottenFirst, IsForgottenLate, ForgetsLate}
use Rattle.schemas.specs.Places.{Each}
use Rattle.schemas.specs.Rules.{IsApiBy}
use Rattle.schemas.proofs.LawLemmas.{any_stands}
use Rattle.schemas.proofs.PreviousLemmas.{IsLast}
use Rattle.history_cut.proofs.ApiOrderLemmas.{versions_rise, previous_is, one_deprecation}
use Rattle.history_cut.proofs.KeptLemmas.{each_kept, all_before, last_kept, any_kept}

-- the removal that a change plans, or 0
abbrev removal_of : ApiChange → ℕ
removal_of (Introduced kind singular namespaced enabled) = 0
removal_of (Deprecated removal replacement) = removal
removal_of Removed = 0
removal_of Forgotten = 0

module _ (apis : List ApiEntry) (o : ℕ) where
  -- a change that is known by an earlier release is known to the cut history
  pub change_known : (Is : ApiChange → Type 0) (name : GroupVersionResource) (e : ℕ) → e ≤ o → Any (λ x. IsKnownOf name e x × Is x.change) apis → Any (λ x. IsKnownOf name e x × Is x.change) (cutoff apis o)
  change_known Is name e within =
      any_kept (λ x. IsKnownOf name e x × Is x.change) (λ x. nat_le x.since o) apis
      (λ (x : ApiEntry) (known : IsKnownOf name e x × Is x.change). let dated : x.since ≤ e = known.0.dated in le-leb x.since o (omega arith))

  -- and one of the cut history is one of the whole
  pub change_there : (Is : ApiChange → Type 0) (name : GroupVersionResource) (e : ℕ) → Any (λ x. IsKnownOf name e x × Is x.change) (cutoff apis o) → Any (λ x. IsKnownOf name e x × Is x.change) apis
  change_there Is name e = Any-from_filter (λ x. IsKnownOf name e x × Is x.change) (λ x. nat_le x.since o) apis

  live_known : (name : GroupVersionResource) (e : ℕ) → e ≤ o → IsLive apis name e → IsLive (cutoff apis o) name e
  live_known name e within live = (change_known IsIntroduction name e within live.0, λ removed. live.1 (change_there IsRemoval name e removed))

  earlier_known : Each StandsInOrder apis → (j k : ℕ) (x y : ApiEntry) → k < j → slice_get apis k ≡ Some y → slice_get apis j ≡ Some x → x.since ≤ o → is_of_version x y ≡ true → nat_le y.since o ≡ true
  earlier_known order j k x y less sy sx by same =
      let before : y.since ≤ x.since = versions_rise apis order k j y x less sy sx (subject_is (subject y) x same) in
      le-leb y.since o (omega arith)

  same_previous : Each StandsInOrder apis → (j : ℕ) (x : ApiEntry) → slice_get apis j ≡ Some x → nat_le x.since o ≡ true → previous_of_version (cutoff (take j apis) o) x ≡ previous_of_version (take j apis) x
  same_previous order j x sx passes =
      last_kept (is_of_version x) (λ y. nat_le y.since o) (take j apis)
      (all_before (λ y. is_of_version x y ≡ true → nat_le y.since o ≡ true) apis j (λ (k : ℕ) (y : ApiEntry) (less : k < j) (sy : slice_get apis k ≡ Some y) (same : is_of_version x y ≡ true).
      earlier_known order j k x y less sy sx (leb-true x.since o passes) same))

  -- HR2
  pub apis_dated : (last : ℕ) → Each (IsApiBy last) apis → Each (IsApiBy o) (cutoff apis o)
  apis_dated last = each_kept (IsApiBy last) (IsApiBy o) (λ x. nat_le x.since o) apis (λ j x sx passes keeps. leb-true x.since o passes)

  -- HR6
  pub order_cut : Each StandsInOrder apis → Each StandsInOrder (cutoff apis o)
  order_cut order = each_kept StandsInOrder StandsInOrder (λ x. nat_le x.since o) apis (λ j x sx passes keeps. subst (λ (p : Option ApiEntry). IsNext p x.since x.change) (sym (same_previous order j x sx passes)) keeps) order

  -- HR7
  pub kinds_cut : Each NamesItsKind apis → Each NamesItsKind (cutoff apis o)
  kinds_cut = each_kept NamesItsKind NamesItsKind (λ x. nat_le x.since o) apis (λ j x sx passes keeps. (keeps.0, All-filter (λ y. nat_le y.since o) (KeepKindsApart x) (take j apis) keeps.1))

  fair_cut : (x : ApiEntry) (change : ApiChange) → x.since ≤ o → IsFairChange apis x change → IsFairChange (cutoff apis o) x change
  fair_cut x (Introduced kind singular namespaced enabled) by rule = tt
  fair_cut x (Deprecated removal replacement) by rule = record {
    own = rule.own;
    other = rule.other;
    own_word = rule.own_word;
    other_word = rule.other_word;
    fair = record {
      notice = rule.fair.notice;
      another = rule.fair.another;
      level = rule.fair.level;
      introduced = change_known IsIntroduction (name_of x.group replacement x.resource) x.since by rule.fair.introduced;
    };
  }
  fair_cut x Removed by rule = tt
  fair_cut x Forgotten by rule = tt

  -- HR8
  pub deprecations_fair_cut : Each (DeprecatesFairly apis) apis → Each (DeprecatesFairly (cutoff apis o)) (cutoff apis o)
  deprecations_fair_cut = each_kept (DeprecatesFairly apis) (DeprecatesFairly (cutoff apis o)) (λ x. nat_le x.since o) apis (λ j x sx passes keeps. fair_cut x x.change (leb-true x.since o passes) keeps)

  planned_cut : (x : ApiEntry) (change : ApiChange) → x.since ≤ o → IsPlanned apis x change → IsPlanned (cutoff apis o) x change
  planned_cut x (Introduced kind singular namespaced enabled) by rule = absurd rule
  planned_cut x (Deprecated removal replacement) by rule = (rule.0, live_known (name_of x.group replacement x.resource) x.since by rule.1)
  planned_cut x Removed by rule = absurd rule
  planned_cut x Forgotten by rule = absurd rule

  planned_behind : (x : ApiEntry) (found : Option ApiEntry) → x.since ≤ o → IsSomeAnd found (λ y. IsPlanned apis x y.change) → IsSomeAnd found (λ y. IsPlanned (cutoff apis o) x y.change)
  planned_behind x None by rule = rule
  planned_behind x (Some y) by rule = planned_cut x y.change by rule

  kept_cut : (last : ℕ) (x : ApiEntry) (change : ApiChange) (found : Option ApiEntry) → x.since ≤ o
      → ((removal : ℕ) (replacement : List ℕ) → change ≡ Deprecated removal replacement → removal ≤ o → IsRemoved (cutoff apis o) (subject x) o)
      → IsKept apis last found x change → IsKept (cutoff apis o) o found x change
  kept_cut last x (Introduced kind singular namespaced enabled) found by comes rule = tt
  kept_cut last x (Deprecated removal replacement) found by comes rule = λ within. comes removal replacement refl within
  kept_cut last x Removed found by comes rule = planned_behind x found by rule
  kept_cut last x Forgotten found by comes rule = tt

  is_deprecation : (change : ApiChange) (removal : ℕ) (replacement : List ℕ) → change ≡ Deprecated removal replacement → IsDeprecation change
  is_deprecation change removal replacement is = subst IsDeprecation (sym is) tt

  planned_at : (x : ApiEntry) (change : ApiChange) → IsPlanned apis x change → IsDeprecation change × (x.since ≡ removal_of change)
  planned_at x (Introduced kind singular namespaced enabled) rule = absurd rule
  planned_at x (Deprecated removal replacement) rule = (tt, rule.0)
  planned_at x Removed rule = absurd rule
  planned_at x Forgotten rule = absurd rule

  planned_before : (last : ℕ) (x : ApiEntry) (change : ApiChange) (found : Option ApiEntry) → IsRemoval change → IsKept apis last found x change → IsSomeAnd found (λ y. IsPlanned apis x y.change)
  planned_before last x (Introduced kind singular namespaced enabled) found is rule = absurd is
  planned_before last x (Deprecated removal replacement) found is rule = absurd is
  planned_before last x Removed found is rule = rule
  planned_before last x Forgotten found is rule = absurd is

  -- a removal of a version comes when its deprecation plans it
  removed_when : Each StandsInOrder apis → (i j : ℕ) (x r : ApiEntry) → slice_get apis i ≡ Some x → slice_get apis j ≡ Some r → subject r ≡ subject x → IsDeprecation x.change
      → (found : Option ApiEntry) → IsLast (is_of_version r) apis j found → IsSomeAnd found (λ y. IsPlanned apis r y.change) → r.since ≡ removal_of x.change
  removed_when order i j x r sx sr same is None last rule = absurd rule
  removed_when order i j x r sx sr same is (Some y) last rule =
      let planned = planned_at r y.change rule in
      let of : subject r ≡ subject y = subject_is (subject y) r last.passes in
      let equal : x ≡ y = one_deprecation apis order i last.place x y sx last.stands (sym of ∙ same) is planned.0 in
      planned.1 ∙ ap (λ (w : ApiEntry). removal_of w.change) (sym equal)

  named_by : (name : GroupVersionResource) (e : ℕ) (x : ApiEntry) → IsKnownOf name e x → subject x ≡ name
  named_by name e x k = λ i. name_of (k.group i) (k.version i) (k.resource i)

  removal_from : (last : ℕ) (x : ApiEntry) (change : ApiChange) (found : Option ApiEntry) (removal : ℕ) (replacement : List ℕ) → change ≡ Deprecated removal replacement → removal ≤ last → IsKept apis last found x change → IsRemoved apis (subject x) last
  removal_from last x change found removal replacement is within rule = subst (IsKept apis last found x) is rule within

  removal_comes : (last : ℕ) → o ≤ last → Each StandsInOrder apis → Each (KeepsPlan apis last) apis → (j : ℕ) (x : ApiEntry) → slice_get apis j ≡ Some x
      → (removal : ℕ) (replacement : List ℕ) → x.change ≡ Deprecated removal replacement → removal ≤ o → IsRemoved (cutoff apis o) (subject x) o
  removal_comes last to order plan j x sx removal replacement is within =
      let P : ApiEntry → Type 0 = λ r. IsKnownOf (subject x) last r × IsRemoval r.change in
      let removed : Any P apis = removal_from last x x.change (previous_of_version (take j apis) x) removal replacement is (omega arith) (plan j x sx) in
      let known : IsKnownOf (subject x) last removed.1 = removed.4.0 in
      let sr : slice_get apis removed.0 ≡ Some removed.1 = any_stands P apis removed in
      let planned = planned_before last removed.1 removed.1.change (previous_of_version (take removed.0 apis) removed.1) removed.4.1 (plan removed.0 removed.1 sr) in
      let when : removed.1.since ≡ removal_of x.change =
      removed_when order j removed.0 x removed.1 sx sr (named_by (subject x) last removed.1 known) (is_deprecation x.change removal replacement is)
      (previous_of_version (take removed.0 apis) removed.1) (previous_is apis order removed.0 removed.1 sr) planned in
      let date : removed.1.since ≡ removal = when ∙ ap removal_of is in
      change_known IsRemoval (subject x) o (omega arith)
      (removed.0, removed.1, removed.2, removed.3, (record { group = known.group; version = known.version; resource = known.resource; dated = (omega arith) }, removed.4.1))

  -- HR9
  pub plan_cut : (last : ℕ) → o ≤ last → Each StandsInOrder apis → Each (KeepsPlan apis last) apis → Each (KeepsPlan (cutoff apis o) o) (cutoff apis o)
  plan_cut last to order plan =
      each_kept (KeepsPlan apis last) (KeepsPlan (cutoff apis o) o) (λ x. nat_le x.since o) apis
      (λ (j : ℕ) (x : ApiEntry) (sx : slice_get apis j ≡ Some x) (passes : nat_le x.since o ≡ true) (keeps : KeepsPlan apis last (take j apis) x).
      subst (λ (p : Option ApiEntry). IsKept (cutoff apis o) o p x x.change) (sym (same_previous order j x sx passes))
      (kept_cut last x x.change (previous_of_version (take j apis) x) (leb-true x.since o passes) (removal_comes last to order plan j x sx) keeps))
      plan

  forgotten_first_cut : (x : ApiEntry) → x.since ≤ o → AreForgottenFirst apis x → AreForgottenFirst (cutoff apis o) x
  forgotten_first_cut x by first =
      All-weaker (IsForgottenBefore apis x) (IsForgottenBefore (cutoff apis o) x) (λ y before favoured. change_known IsForgetting (name_of y.group y.version y.resource) x.since by (before favoured)) (cutoff apis o)
      (All-filter (λ y. nat_le y.since o) (IsForgottenBefore apis x) apis first)

  late_cut : (x : ApiEntry) (change : ApiChange) (found : Option ApiEntry) → x.since ≤ o → IsForgottenLate apis found x change → IsForgottenLate (cutoff apis o) found x change
  late_cut x (Introduced kind singular namespaced enabled) found by rule = tt
  late_cut x (Deprecated removal replacement) found by rule = tt
  late_cut x Removed found by rule = tt
  late_cut x Forgotten found by rule = (rule.0, forgotten_first_cut x by rule.1)

  -- HR10
  pub forgettings_late_cut : Each StandsInOrder apis → Each (ForgetsLate apis) apis → Each (ForgetsLate (cutoff apis o)) (cutoff apis o)
  forgettings_late_cut order =
      each_kept (ForgetsLate apis) (ForgetsLate (cutoff apis o)) (λ x. nat_le x.since o) apis
      (λ (j : ℕ) (x : ApiEntry) (sx : slice_get apis j ≡ Some x) (passes : nat_le x.since o ≡ true) (keeps : ForgetsLate apis (take j apis) x).
      subst (λ (p : Option ApiEntry). IsForgottenLate (cutoff apis o) p x x.change) (sym (same_previous order j x sx passes)) (late_cut x x.change (previous_of_version (take j apis) x) (leb-true x.since o passes) keeps))
