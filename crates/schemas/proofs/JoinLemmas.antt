-- A history is accepted exactly where no entry breaks a rule.
use Rattle.std.proofs.Common.{ℕ, zero, suc, ◌≡◌, ◌+◌, ◌<◌, ◌≤◌, List, [], ◌∷◌, ◌++◌, true, false, Option, Some, None, take, refl, sym, ap, subst, ◌∙◌}
use Rattle.std.specs.Prelude.{slice_get, IsSomeAnd, IfSome}
use Rattle.std.specs.List.{AllByRecursion}
use Rattle.gate_spec.specs.declared.entry.GateEntry.{GateEntry}
use Rattle.gate_spec.specs.declared.entry.GateChange.{GateChange}
use Rattle.gate_spec.specs.declared.entry.GateChange.TheVariants.{Spec, Gone}
use Rattle.gate_spec.specs.declared.entry.Stage.TheVariants.{Alpha, Beta, Ga, Deprecated as Late}
use Rattle.lifecycle.specs.Entry.{IsIntroduction, IsRemoval}
use Rattle.lifecycle.specs.Version.{IsVersion, IsWord, word_text}
use Rattle.lifecycle.specs.declared.version.Level.{Level}
use Rattle.lifecycle.specs.declared.version.VersionWord.{VersionWord}
use Rattle.lifecycle.specs.Stability.{rank_of}
use Rattle.lifecycle.specs.declared.entry.ApiChange.{ApiChange}
use Rattle.lifecycle.specs.declared.entry.ApiChange.TheVariants.{Introduced, Deprecated, Removed, Forgotten}
use Rattle.lifecycle.specs.declared.entry.ApiEntry.{ApiEntry}
use Rattle.lifecycle.proofs.WordLemmas.{word_text_injective}
use Rattle.schemas.specs.Dated.{Dated, IsShaped}
use Rattle.schemas.specs.Shapes.{IsShapedApi, IsShapedChange}
use Rattle.schemas.specs.Places.{Each, Breaks}
use Rattle.schemas.specs.GateRules.{IsGone, IsLockedSpec, IsFitSpec, IsRipe, RisesInGate, FitsStage, FollowsLockedSpec}
use Rattle.schemas.specs.ApiRules.{IsDeprecation, IsNext, AgreeInKind, DifferInKind, KeepKindsApart, HasLawfulName, NamesItsKind, notice_of, IsFairBetween, IsFairDeprecation, IsFairChange, IsPlanned, IsKept, KeepsPlan, IsInFavourOf, IsLateAfter, AreForgottenFirst, IsForgottenLate, ForgetsLate, DeprecatesFairly, StandsInOrder, name_of, IsForgotten}
use Rattle.schemas.specs.FieldRules.{BelongsToResource, IsRequiredFairly, HasKnownGate, IsSpelledThroughout}
use Rattle.schemas.specs.SpellRules.{SpellsPairOnce, HasOwnPath, FitsType, FitsField}
use Rattle.schemas.specs.Pairs.{IsOfField}
use Rattle.schemas.specs.Rules.{IsGateBy, IsApiBy, IsFieldBy, IsSpellBy, Check, AllHold, IsAccepted, IsUnbroken, release_check, date_checks, gate_checks, api_checks, field_checks, checks, first_of, last_of}
use Rattle.schemas.proofs.FieldStabilityLemmas.{belongs_stable, always_stable, gate_stable, spelled_stable, paired_stable, path_stable, fit_stable}
use Rattle.schemas.proofs.PlaceLemmas.{unbroken}
use Rattle.schemas.proofs.DecisionLemmas.{IsStable, stable_decided, stable_both, stable_not, stable_to, stable_all, stable_holds, stable_fails, stable_less, stable_at_most, stable_same, stable_bytes, stable_bool, introduced_decided, removed_decided, forgotten_decided}

-- where no entry breaks the rule, each keeps it
each_keeps : {E : Type 0} (Keeps : List E → E → Type 0) (xs : List E) → ((i : ℕ) (x : E) → slice_get xs i ≡ Some x → IsStable (Keeps (take i xs) x)) → ((n : ℕ) → ¬ Breaks Keeps xs n) → Each Keeps xs
each_keeps {E} Keeps xs stable none = λ (i : ℕ) (x : E) (stands : slice_get xs i ≡ Some x).
    stable i x stands (λ no. none (i + 1) (record { place = i; entry = x; counted = refl; stands = stands; broken = no }))

locked_stable : (change : GateChange) → IsStable (IsLockedSpec change)
locked_stable (Spec stage default locked) = stable_bool locked true
locked_stable Gone = stable_fails

rises_stable : (previous : Option GateEntry) (since : ℕ) → IsStable (IfSome previous (λ y. (y.since < since) × ¬ IsGone y.change))
rises_stable None since = stable_holds
rises_stable (Some y) since = stable_both (stable_less y.since since) stable_not

fits_stable : (change : GateChange) → IsStable (IsFitSpec change)
fits_stable (Spec Alpha default locked) = stable_both (stable_bool default false) (stable_bool locked false)
fits_stable (Spec Beta default locked) = stable_bool locked false
fits_stable (Spec Ga default locked) = stable_bool default true
fits_stable (Spec Late default locked) = stable_holds
fits_stable Gone = stable_holds

ripe_stable : (previous : Option GateEntry) (since : ℕ) (change : GateChange) → IsStable (IsRipe previous since change)
ripe_stable previous since (Spec stage default locked) = stable_holds
ripe_stable None since Gone = stable_fails
ripe_stable (Some y) since Gone = stable_both (locked_stable y.change) (stable_at_most (y.since + 3) since)

introduction_stable : (change : ApiChange) → IsStable (IsIntroduction change)
introduction_stable (Introduced kind singular namespaced enabled) = stable_holds
introduction_stable (Deprecated removal replacement) = stable_fails
introduction_stable Removed = stable_fails
introduction_stable Forgotten = stable_fails

deprecation_stable : (change : ApiChange) → IsStable (IsDeprecation change)
deprecation_stable (Introduced kind singular namespaced enabled) = stable_fails
deprecation_stable (Deprecated removal replacement) = stable_holds
deprecation_stable Removed = stable_fails
deprecation_stable Forgotten = stable_fails

removal_stable : (change : ApiChange) → IsStable (IsRemoval change)
removal_stable (Introduced kind singular namespaced enabled) = stable_fails
removal_stable (Deprecated removal replacement) = stable_fails
removal_stable Removed = stable_holds
removal_stable Forgotten = stable_fails

next_stable : (previous : Option ApiEntry) (since : ℕ) (change : ApiChange) → IsStable (IsNext previous since change)
next_stable None since (Introduced kind singular namespaced enabled) = stable_bool false false
next_stable (Some y) since (Introduced kind singular namespaced enabled) = stable_bool true false
next_stable None since (Deprecated removal replacement) = stable_fails
next_stable (Some y) since (Deprecated removal replacement) = stable_both (introduction_stable y.change) (stable_less y.since since)
next_stable None since Removed = stable_fails
next_stable (Some y) since Removed = stable_both (deprecation_stable y.change) (stable_at_most y.since since)
next_stable None since Forgotten = stable_fails
next_stable (Some y) since Forgotten = stable_both (removal_stable y.change) (stable_less y.since since)

agree_stable : (x y : ApiChange) → IsStable (AgreeInKind x y)
agree_stable (Introduced kind singular namespaced enabled) (Introduced kind' singular' namespaced' enabled') = λ h.
    (stable_bytes kind kind' (λ no. h (λ t. no t.0)), stable_bytes singular singular' (λ no. h (λ t. no t.1)), stable_bool namespaced namespaced' (λ no. h (λ t. no t.2)))
agree_stable (Introduced kind singular namespaced enabled) (Deprecated removal replacement) = stable_holds
agree_stable (Introduced kind singular namespaced enabled) Removed = stable_holds
agree_stable (Introduced kind singular namespaced enabled) Forgotten = stable_holds
agree_stable (Deprecated removal replacement) y = stable_holds
agree_stable Removed y = stable_holds
agree_stable Forgotten y = stable_holds

differ_stable : (x y : ApiChange) → IsStable (DifferInKind x y)
differ_stable (Introduced kind singular namespaced enabled) (Introduced kind' singular' namespaced' enabled') = stable_not
differ_stable (Introduced kind singular namespaced enabled) (Deprecated removal replacement) = stable_holds
differ_stable (Introduced kind singular namespaced enabled) Removed = stable_holds
differ_stable (Introduced kind singular namespaced enabled) Forgotten = stable_holds
differ_stable (Deprecated removal replacement) y = stable_holds
differ_stable Removed y = stable_holds
differ_stable Forgotten y = stable_holds

apart_stable : (x y : ApiEntry) → IsStable (KeepKindsApart x y)
apart_stable x y h = record {
  agree = λ group resource. agree_stable x.change y.change (λ no. h (λ (k : KeepKindsApart x y). no (k.agree group resource)));
  differ = λ group resource. differ_stable x.change y.change (λ no. h (λ (k : KeepKindsApart x y). no (k.differ group resource)));
}

name_stable : (x : ApiEntry) → IsStable (HasLawfulName x)
name_stable x h = record {
  no_namespaces = stable_not (λ no. h (λ (k : HasLawfulName x). no k.no_namespaces));
  core = λ core. stable_bytes x.version _ (λ no. h (λ (k : HasLawfulName x). no (k.core core)));
}

between_stable : (all : List ApiEntry) (x : ApiEntry) (removal : ℕ) (replacement : List ℕ) (own other : Level) → IsStable (IsFairBetween all x removal replacement own other)
between_stable all x removal replacement own other h = record {
  notice = stable_at_most (x.since + notice_of own) removal (λ no. h (λ (k : IsFairBetween all x removal replacement own other). no k.notice));
  another = stable_not (λ no. h (λ (k : IsFairBetween all x removal replacement own other). no k.another));
  level = stable_at_most (rank_of other) (rank_of own) (λ no. h (λ (k : IsFairBetween all x removal replacement own other). no k.level));
  introduced = stable_decided (introduced_decided all (name_of x.group replacement x.resource) x.since) (λ no. h (λ (k : IsFairBetween all x removal replacement own other). no k.introduced));
}

-- the levels of a fair deprecation are those of the words that the two texts are
pub levels_of : (all : List ApiEntry) (x : ApiEntry) (removal : ℕ) (replacement : List ℕ) (own other : VersionWord) → IsWord own × (x.version ≡ word_text own) → IsWord other × (replacement ≡ word_text other) → IsFairDeprecation all x removal replacement → IsFairBetween all x removal replacement own.level other.level
levels_of all x removal replacement own other v w d =
    let p : d.own ≡ own = word_text_injective d.own own d.own_word.0 v.0 (sym d.own_word.1 ∙ v.1) in
    let q : d.other ≡ other = word_text_injective d.other other d.other_word.0 w.0 (sym d.other_word.1 ∙ w.1) in
    subst (λ (l : Level). IsFairBetween all x removal replacement own.level l) (ap (λ (y : VersionWord). y.level) q)
    (subst (λ (l : Level). IsFairBetween all x removal replacement l d.other.level) (ap (λ (y : VersionWord). y.level) p) d.fair)

fair_stable : (all : List ApiEntry) (x : ApiEntry) (change : ApiChange) → IsVersion x.version → IsShapedChange change → IsStable (IsFairChange all x change)
fair_stable all x (Introduced kind singular namespaced enabled) v shape = stable_holds
fair_stable all x (Deprecated removal replacement) v shape = λ h. record {
  own = v.0;
  other = shape.1.0;
  own_word = (v.1, v.2);
  other_word = (shape.1.1, shape.1.2);
  fair = between_stable all x removal replacement v.0.level shape.1.0.level (λ no. h (λ (d : IsFairDeprecation all x removal replacement). no (levels_of all x removal replacement v.0 shape.1.0 (v.1, v.2) (shape.1.1, shape.1.2) d)));
}
fair_stable all x Removed v shape = stable_holds
fair_stable all x Forgotten v shape = stable_holds

planned_stable : (all : List ApiEntry) (x : ApiEntry) (change : ApiChange) → IsStable (IsPlanned all x change)
planned_stable all x (Introduced kind singular namespaced enabled) = stable_fails
planned_stable all x (Deprecated removal replacement) = stable_both (stable_same x.since removal) (stable_both (stable_decided (introduced_decided all (name_of x.group replacement x.resource) x.since)) stable_not)
planned_stable all x Removed = stable_fails
planned_stable all x Forgotten = stable_fails

kept_stable : (all : List ApiEntry) (last : ℕ) (previous : Option ApiEntry) (x : ApiEntry) (change : ApiChange) → IsStable (IsKept all last previous x change)
kept_stable all last previous x (Introduced kind singular namespaced enabled) = stable_holds
kept_stable all last previous x (Deprecated removal replacement) = stable_to (stable_decided (removed_decided all (name_of x.group x.version x.resource) last))
kept_stable all last None x Removed = stable_fails
kept_stable all last (Some y) x Removed = planned_stable all x y.change
kept_stable all last previous x Forgotten = stable_holds

late_stable : (previous : Option ApiEntry) (since : ℕ) → IsStable (IsLateAfter previous since)
late_stable None since = stable_fails
late_stable (Some y) since = stable_both (removal_stable y.change) (stable_at_most (y.since + 3) since)

first_stable : (all : List ApiEntry) (x : ApiEntry) → IsStable (AreForgottenFirst all x)
first_stable all x = stable_all (λ y. IsInFavourOf x y y.change → IsForgotten all (name_of y.group y.version y.resource) x.since) all (λ y. stable_to (stable_decided (forgotten_decided all (name_of y.group y.version y.resource) x.since)))

forgotten_stable : (all : List ApiEntry) (previous : Option ApiEntry) (x : ApiEntry) (change : ApiChange) → IsStable (IsForgottenLate all previous x change)
forgotten_stable all previous x (Introduced kind singular namespaced enabled) = stable_holds
forgotten_stable all previous x (Deprecated removal replacement) = stable_holds
forgotten_stable all previous x Removed = stable_holds
forgotten_stable all previous x Forgotten = stable_both (late_stable previous x.since) (first_stable all x)

releases_stable : (first last : Option ℕ) → IsStable (IsSomeAnd first (λ f. IsSomeAnd last (λ l. f ≤ l)))
releases_stable None last = stable_fails
releases_stable (Some f) None = stable_fails
releases_stable (Some f) (Some l) = stable_at_most f l

shaped_at : (xs : List ApiEntry) → AllByRecursion IsShapedApi xs → (i : ℕ) (x : ApiEntry) → slice_get xs i ≡ Some x → IsShapedApi x
shaped_at [] shaped i x stands = absurd (let e : None ≡ Some x = stands in cc)
shaped_at (y ∷ ys) shaped zero x stands = subst IsShapedApi (let e : Some y ≡ Some x = stands in cc) shaped.0
shaped_at (y ∷ ys) shaped (suc i) x stands = shaped_at ys shaped.1 i x stands

-- ---- each test holds exactly where no entry breaks it

record Joined (Holds : Type 0) (IsBrokenAt : ℕ → Type 0) : Type 0 where
  pub sound : Holds → (n : ℕ) → ¬ IsBrokenAt n
  pub whole : ((n : ℕ) → ¬ IsBrokenAt n) → Holds

abbrev AllJoined : Dated → List Check → Type 0
AllJoined h [] = Unit {0}
AllJoined h (check ∷ more) = Joined (check.Holds h) (check.IsBrokenAt h) × AllJoined h more

join_both : (h : Dated) (xs ys : List Check) → AllJoined h xs → AllJoined h ys → AllJoined h (xs ++ ys)
join_both h [] ys one other = other
join_both h (x ∷ xs) ys one other = (one.0, join_both h xs ys one.1 other)

all_unbroken : (h : Dated) (tests : List Check) → AllJoined h tests → AllHold h tests → IsUnbroken h tests
all_unbroken h [] joined all = tt
all_unbroken h (test ∷ more) joined all = (joined.0.sound all.0, all_unbroken h more joined.1 all.1)

all_hold : (h : Dated) (tests : List Check) → AllJoined h tests → IsUnbroken h tests → AllHold h tests
all_hold h [] joined none = tt
all_hold h (test ∷ more) joined none = (joined.0.whole none.0, all_hold h more joined.1 none.1)

each_joined : {E : Type 0} (Keeps : List E → E → Type 0) (xs : List E) → ((i : ℕ) (x : E) → slice_get xs i ≡ Some x → IsStable (Keeps (take i xs) x)) → Joined (Each Keeps xs) (Breaks Keeps xs)
each_joined Keeps xs stable = record { sound = unbroken Keeps xs; whole = each_keeps Keeps xs stable }

module _ (h : Dated) (shaped : IsShaped h) where
  on_releases : AllJoined h (release_check ∷ [])
  on_releases = (record { sound = λ all n top. top.1 all; whole = λ none. releases_stable h.first h.last (λ no. none 0 (refl, no)) }, tt)

  on_dates : AllJoined h date_checks
  on_dates = (
    each_joined (IsGateBy (last_of h)) h.gates (λ i x s. stable_at_most x.since (last_of h)),
    (
      each_joined (IsApiBy (last_of h)) h.apis (λ i x s. stable_at_most x.since (last_of h)),
      (
        each_joined (IsFieldBy (last_of h)) h.fields (λ i x s. stable_at_most x.since (last_of h)),
        (each_joined (IsSpellBy (last_of h)) h.spells (λ i x s. stable_at_most x.since (last_of h)), tt),
      ),
    ),
  )

  on_gates : AllJoined h gate_checks
  on_gates = (
    each_joined RisesInGate h.gates (λ i x s. rises_stable _ x.since),
    (
      each_joined FitsStage h.gates (λ i x s. fits_stable x.change),
      (each_joined FollowsLockedSpec h.gates (λ i x s. ripe_stable _ x.since x.change), tt),
    ),
  )

  on_apis : AllJoined h api_checks
  on_apis = (
    each_joined StandsInOrder h.apis (λ i x s. next_stable _ x.since x.change),
    (
      each_joined NamesItsKind h.apis (λ i x s. stable_both (name_stable x) (stable_all (KeepKindsApart x) (take i h.apis) (λ y. apart_stable x y))),
      (
        each_joined (DeprecatesFairly h.apis) h.apis (λ i x s. let shape = shaped_at h.apis shaped.apis i x s in fair_stable h.apis x x.change shape.version shape.change),
        (
          each_joined (KeepsPlan h.apis (last_of h)) h.apis (λ i x s. kept_stable h.apis (last_of h) _ x x.change),
          (each_joined (ForgetsLate h.apis) h.apis (λ i x s. forgotten_stable h.apis _ x x.change), tt),
        ),
      ),
    ),
  )

  on_fields : AllJoined h field_checks
  on_fields = (
    each_joined (BelongsToResource (first_of h) h.apis) h.fields (λ i x s. belongs_stable (first_of h) h.apis (take i h.fields) x),
    (
      each_joined (IsRequiredFairly h.apis) h.fields (λ i x s. stable_to (always_stable h.apis x)),
      (
        each_joined (HasKnownGate (first_of h) h.gates) h.fields (λ i x s. gate_stable (first_of h) h.gates x x.gate),
        (
          each_joined (IsSpelledThroughout h.apis h.spells) h.fields (λ i x s. spelled_stable h.apis h.spells x),
          (
            each_joined (SpellsPairOnce h.apis h.fields) h.spells (λ i x s. paired_stable h.apis h.fields (take i h.spells) x),
            (
              each_joined HasOwnPath h.spells (λ i x s. path_stable (take i h.spells) x),
              (each_joined (FitsField h.fields) h.spells (λ i x s. stable_all (λ f. IsOfField f x → FitsType f.ty x.form x.default) h.fields (λ f. stable_to (fit_stable f.ty x.form x.default))), tt),
            ),
          ),
        ),
      ),
    ),
  )

  all_joined : AllJoined h checks
  all_joined =
      join_both h (release_check ∷ date_checks ++ gate_checks ++ api_checks) field_checks
      (join_both h (release_check ∷ date_checks ++ gate_checks) api_checks
      (join_both h (release_check ∷ date_checks) gate_checks (join_both h (release_check ∷ []) date_checks on_releases on_dates) on_gates) on_apis) on_fields

  pub accepted_unbroken : IsAccepted h → IsUnbroken h checks
  accepted_unbroken a = all_unbroken h checks all_joined a.keeps

  pub unbroken_accepted : IsUnbroken h checks → IsAccepted h
  unbroken_accepted none = record { keeps = all_hold h checks all_joined none }
