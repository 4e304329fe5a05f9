-- Runtime configurations by a history that is folded have the faults that they have by the whole one, but for keys of what is forgotten.
use Rattle.std.proofs.Common.{ℕ, zero, suc, ◌≡◌, ◌⊎◌, ◌&&◌, ◌+◌, ◌<◌, ◌≤◌, not, List, true, false, Option, Some, None, Contains, take, refl, sym, ap, subst, ◌∙◌, arith, inl, inr}
use Rattle.std.specs.Prelude.{nat_le, slice_get, IsSomeAnd}
use Rattle.std.proofs.lemmas.Bool.{cases_Bool, and_parts, and_from, false_from_ne_true, false≢true, le-leb, not_from_false}
use Rattle.std.proofs.lemmas.List.Folds.{Any-from_list_any, list_any-from_Any}
use Rattle.std.proofs.lemmas.Option.{slice_get_within, get_or_from_slice_get}
use Rattle.basis.proofs.ElementLemmas.{Any-from}
use Rattle.basis.proofs.FilterLemmas.{Contains-filter, Contains-from_filter, passes_from_filter}
use Rattle.flag_text.specs.Pieces.{FlagPiece, pieces, last_pieces}
use Rattle.flag_text.proofs.PassLemmas.{first_with}
use Rattle.lifecycle.specs.Entry.{GroupVersionResource, subject, IsIntroduction, IsKnownOf, IsIntroduced}
use Rattle.lifecycle.specs.Same.{AreSameVersions}
use Rattle.lifecycle.specs.Tables.{cutoff, is_introduction, live}
use Rattle.lifecycle.specs.declared.entry.ApiChange.{ApiChange}
use Rattle.lifecycle.specs.declared.entry.ApiChange.TheVariants.{Introduced, Deprecated, Removed, Forgotten}
use Rattle.lifecycle.specs.declared.entry.ApiEntry.{ApiEntry}
use Rattle.lifecycle.proofs.SameLemmas.{live_is_spoken_of, same_versions_back}
use Rattle.lifecycle.proofs.TableLemmas.{subject_is}
use Rattle.runtime_config.specs.Config.{IsTakenKey, IsRefused, IsTextFault, names_some, names_introduced, names_live}
use Rattle.runtime_config.specs.Keys.{names}
use Rattle.runtime_config.specs.declared.fault.ConfigCause.{ConfigCause}
use Rattle.runtime_config.specs.declared.fault.ConfigCause.TheVariants.{BadPair, BadBool, UnknownApi, AfterEmulated, RemovedApi}
use Rattle.runtime_config.specs.declared.fault.ConfigFault.{ConfigFault}
use Rattle.runtime_config.specs.declared.fault.ConfigFault.TheVariants.{Memory, At, OnlyAllFalse}
use Rattle.runtime_config.proofs.RefusalLemmas.{live_is_named}
use Rattle.schemas.specs.ApiRules.{is_of_version, previous_of_version, IsForgetting, IsForgotten, IsNext, StandsInOrder}
use Rattle.schemas.specs.Dated.{Dated}
use Rattle.schemas.specs.Places.{Each}
use Rattle.schemas.specs.Rules.{IsAccepted}
use Rattle.schemas.proofs.AcceptedLemmas as hr
use Rattle.schemas.proofs.LawLemmas.{any_stands, introduced_later}
use Rattle.schemas.proofs.PreviousLemmas.{IsLast}
use Rattle.history_cut.proofs.ApiOrderLemmas.{previous_is}
use Rattle.history_fold.specs.Folded.{is_forgotten, apis_from, floor_in}
use Rattle.history_fold.specs.Laws.{IsSeenAs, HasFaultsOfWhole}
use Rattle.history_fold.proofs.ApiFoldLemmas.{forgotten_said, named_by}
use Rattle.history_fold.proofs.GateFaultLemmas.{same_faults}
use Rattle.history_fold.proofs.SameFoldLemmas.{same_versions}

-- ---- what is spoken of was introduced (HR6)

led_by : (previous : Option ApiEntry) (since : ℕ) (change : ApiChange) → IsNext previous since change → IsIntroduction change ⊎ IsSomeAnd previous (λ y. y.since ≤ since)
led_by previous since (Introduced kind singular namespaced enabled) rule = inl tt
led_by (Some y) since (Deprecated removal replacement) rule = inr (let before : y.since < since = rule.1 in omega arith)
led_by None since (Deprecated removal replacement) rule = absurd rule
led_by (Some y) since Removed rule = inr rule.1
led_by None since Removed rule = absurd rule
led_by (Some y) since Forgotten rule = inr (let before : y.since < since = rule.1 in omega arith)
led_by None since Forgotten rule = absurd rule

abbrev AreLedBelow : List ApiEntry → ℕ → Type 0
AreLedBelow xs n = (j : ℕ) (x : ApiEntry) → j < n → slice_get xs j ≡ Some x → IsIntroduced xs (subject x) x.since

led_from : (xs : List ApiEntry) (n j : ℕ) (x : ApiEntry) → AreLedBelow xs n → j ≤ n → (found : Option ApiEntry) → IsLast (is_of_version x) xs j found → IsSomeAnd found (λ y. y.since ≤ x.since) → IsIntroduced xs (subject x) x.since
led_from xs n j x below bound None last rule = absurd rule
led_from xs n j x below bound (Some y) last rule =
    let named : subject x ≡ subject y = subject_is (subject y) x last.passes in
    let before : last.place < n = (let b : last.place < j = last.before in omega arith) in
    subst (λ (name : GroupVersionResource). IsIntroduced xs name x.since) (sym named) (introduced_later xs (subject y) y.since x.since rule (below last.place y before last.stands))

module _ (xs : List ApiEntry) (order : Each StandsInOrder xs) where
  led_below : (n : ℕ) → AreLedBelow xs n
  led_below zero = λ (j : ℕ) (x : ApiEntry) (bound : j < 0) (sx : slice_get xs j ≡ Some x). absurd (omega arith)
  led_below (suc n) = λ (j : ℕ) (x : ApiEntry) (bound : j < suc n) (sx : slice_get xs j ≡ Some x).
      elim (led_by (previous_of_version (take j xs) x) x.since x.change (order j x sx)) [
        | inl introduces ↦ (j, x, slice_get_within xs j x sx, get_or_from_slice_get xs j x x sx, (record { group = refl; version = refl; resource = refl; dated = omega arith }, introduces))
        | inr behind ↦ led_from xs n j x (led_below n) (omega arith) (previous_of_version (take j xs) x) (previous_is xs order j x sx) behind
      ]

  forgotten_introduced : (name : GroupVersionResource) (e : ℕ) → IsForgotten xs name e → IsIntroduced xs name e
  forgotten_introduced name e forgotten =
      let P : ApiEntry → Type 0 = λ x. IsKnownOf name e x × IsForgetting x.change in
      let x : ApiEntry = forgotten.1 in
      let known : IsKnownOf name e x = forgotten.4.0 in
      let led : IsIntroduced xs (subject x) x.since = led_below (forgotten.0 + 1) forgotten.0 x (omega arith) (any_stands P xs forgotten) in
      introduced_later xs name x.since e known.dated (subst (λ (n : GroupVersionResource). IsIntroduced xs n x.since) (named_by name e x known) led)

-- ---- keys

introduction_is : (c : ApiChange) → IsIntroduction c → is_introduction c ≡ true
introduction_is (Introduced kind singular namespaced enabled) h = refl
introduction_is (Deprecated removal replacement) h = absurd h
introduction_is Removed h = absurd h
introduction_is Forgotten h = absurd h

-- what tables that say the same of versions have live, the key names in both
live_named : (xs ys : List ApiEntry) → AreSameVersions xs ys → (key : List ℕ) → names_live key xs ≡ true → names_live key ys ≡ true
live_named xs ys same key there =
    let x = Any-from_list_any (λ x. names key (subject x) && live xs (subject x)) xs there in
    let parts = and_parts (names key (subject x.1)) (live xs (subject x.1)) x.4 in
    let spoken = live_is_spoken_of ys (subject x.1) (sym (same.live (subject x.1)) ∙ parts.1) in
    list_any-from_Any (λ y. names key (subject y) && live ys (subject y)) ys
    (Any-from (λ y. (names key (subject y) && live ys (subject y)) ≡ true) ys spoken.0 spoken.1
    (and_from (names key (subject spoken.0)) (live ys (subject spoken.0))
    (ap (names key) spoken.2 ∙ parts.0) (ap (live ys) spoken.2 ∙ sym (same.live (subject x.1)) ∙ parts.1)))

none_live_named : (xs ys : List ApiEntry) → AreSameVersions xs ys → (key : List ℕ) → names_live key xs ≡ false → names_live key ys ≡ false
none_live_named xs ys same key none = false_from_ne_true (names_live key ys) (λ there. false≢true (sym none ∙ live_named ys xs (same_versions_back xs ys same) key there))

taken_along : (xs ys : List ApiEntry) → AreSameVersions xs ys → (p : FlagPiece) → IsTakenKey xs p.name → IsTakenKey ys p.name
taken_along xs ys same p (inl api) = inl api
taken_along xs ys same p (inr there) = inr (live_named xs ys same p.name there)

-- what fewer entries name, more name
named_among : (key : List ℕ) (xs ys : List ApiEntry) → ((x : ApiEntry) → Contains xs x → Contains ys x) → names_some key xs ≡ true → names_some key ys ≡ true
named_among key xs ys within some =
    let x = Any-from_list_any (λ x. names key (subject x)) xs some in
    list_any-from_Any (λ y. names key (subject y)) ys (Any-from (λ y. names key (subject y) ≡ true) ys x.1 (within x.1 (x.0, x.2, x.3)) x.4)

introduced_among : (key : List ℕ) (xs ys : List ApiEntry) → ((x : ApiEntry) → Contains xs x → Contains ys x) → names_introduced key xs ≡ true → names_introduced key ys ≡ true
introduced_among key xs ys within some =
    let x = Any-from_list_any (λ x. names key (subject x) && is_introduction x.change) xs some in
    list_any-from_Any (λ y. names key (subject y) && is_introduction y.change) ys
    (Any-from (λ y. (names key (subject y) && is_introduction y.change) ≡ true) ys x.1 (within x.1 (x.0, x.2, x.3)) x.4)

-- ---- causes

-- the cause by the folded history is that by the whole one, but for what was removed
abbrev IsCauseSeenAs : ConfigCause → ConfigCause → Type 0
IsCauseSeenAs whole seen = (seen ≡ whole) ⊎ ((whole ≡ RemovedApi) × ((seen ≡ UnknownApi) ⊎ (seen ≡ AfterEmulated)))

fault_seen : (place : ℕ) (c d : ConfigCause) → IsCauseSeenAs c d → IsSeenAs (At place c) (At place d)
fault_seen place c d (inl same) = inl (ap (At place) same)
fault_seen place c d (inr other) = inr (place, ap (At place) other.0, elim other.1 [ inl unknown ↦ inl (ap (At place) unknown) | inr later ↦ inr (ap (At place) later) ])

module _ (h : Dated) (accepted : IsAccepted h) (o : ℕ) (from : floor_in h ≤ o) where
  left_among : (x : ApiEntry) → Contains (apis_from h.apis (floor_in h)) x → Contains h.apis x
  left_among x c = Contains-from_filter (λ y. not (is_forgotten h.apis (floor_in h) (subject y))) h.apis x c

  known_among : (x : ApiEntry) → Contains (cutoff (apis_from h.apis (floor_in h)) o) x → Contains (cutoff h.apis o) x
  known_among x c =
      Contains-filter (λ y. nat_le y.since o) h.apis x (left_among x (Contains-from_filter (λ y. nat_le y.since o) (apis_from h.apis (floor_in h)) x c))
      (passes_from_filter (λ y. nat_le y.since o) (apis_from h.apis (floor_in h)) x c)

  same : AreSameVersions (cutoff h.apis o) (cutoff (apis_from h.apis (floor_in h)) o)
  same = same_versions h accepted o from

  back : AreSameVersions (cutoff (apis_from h.apis (floor_in h)) o) (cutoff h.apis o)
  back = same_versions_back (cutoff h.apis o) (cutoff (apis_from h.apis (floor_in h)) o) same

  none_introduced : (key : List ℕ) → names_introduced key (cutoff h.apis o) ≡ false → names_introduced key (cutoff (apis_from h.apis (floor_in h)) o) ≡ false
  none_introduced key none =
      false_from_ne_true (names_introduced key (cutoff (apis_from h.apis (floor_in h)) o))
      (λ some. false≢true (sym none ∙ introduced_among key (cutoff (apis_from h.apis (floor_in h)) o) (cutoff h.apis o) known_among some))

  -- what the key names that no release by then has introduced, stays
  later_stays : (key : List ℕ) → names_some key h.apis ≡ true → names_introduced key (cutoff h.apis o) ≡ false → names_some key (apis_from h.apis (floor_in h)) ≡ true
  later_stays key some none =
      let x = Any-from_list_any (λ x. names key (subject x)) h.apis some in
      elim (cases_Bool (is_forgotten h.apis (floor_in h) (subject x.1))) [
        | inr stays ↦
            list_any-from_Any (λ y. names key (subject y)) (apis_from h.apis (floor_in h))
            (Any-from (λ y. names key (subject y) ≡ true) (apis_from h.apis (floor_in h)) x.1
            (Contains-filter (λ y. not (is_forgotten h.apis (floor_in h) (subject y))) h.apis x.1 (x.0, x.2, x.3) (not_from_false (is_forgotten h.apis (floor_in h) (subject x.1)) stays)) x.4)
        | inl gone ↦
            let introduced : IsIntroduced h.apis (subject x.1) o =
            introduced_later h.apis (subject x.1) (floor_in h) o from
            (forgotten_introduced h.apis (hr.versions_in_order h accepted) (subject x.1) (floor_in h) ((forgotten_said h.apis (floor_in h) (subject x.1)).0 gone)) in
            let y : ApiEntry = introduced.1 in
            let known : IsKnownOf (subject x.1) o y = introduced.4.0 in
            absurd (false≢true (sym none ∙ list_any-from_Any (λ z. names key (subject z) && is_introduction z.change) (cutoff h.apis o)
            (Any-from (λ z. (names key (subject z) && is_introduction z.change) ≡ true) (cutoff h.apis o) y
            (Contains-filter (λ z. nat_le z.since o) h.apis y (introduced.0, introduced.2, introduced.3) (le-leb y.since o known.dated))
            (and_from (names key (subject y)) (is_introduction y.change) (ap (names key) (named_by (subject x.1) o y known) ∙ x.4) (introduction_is y.change introduced.4.1)))))
      ]

  refusal_kept : (p : FlagPiece) (c : ConfigCause) → IsRefused h.apis o p c → (d : ConfigCause) × IsCauseSeenAs c d × IsRefused (apis_from h.apis (floor_in h)) o p d
  refusal_kept p BadPair is = absurd is
  refusal_kept p BadBool is = absurd is
  refusal_kept p UnknownApi is = (
    UnknownApi,
    inl refl,
    record {
      no_api_key = is.no_api_key;
      nothing = false_from_ne_true (names_some p.name (apis_from h.apis (floor_in h))) (λ some. false≢true (sym is.nothing ∙ named_among p.name (apis_from h.apis (floor_in h)) h.apis left_among some));
    },
  )
  refusal_kept p AfterEmulated is = (
    AfterEmulated,
    inl refl,
    record {
      no_api_key = is.no_api_key;
      something = later_stays p.name is.something is.none_introduced;
      none_live = none_live_named (cutoff h.apis o) (cutoff (apis_from h.apis (floor_in h)) o) same p.name is.none_live;
      none_introduced = none_introduced p.name is.none_introduced;
    },
  )
  refusal_kept p RemovedApi is =
      let none_live : names_live p.name (cutoff (apis_from h.apis (floor_in h)) o) ≡ false = none_live_named (cutoff h.apis o) (cutoff (apis_from h.apis (floor_in h)) o) same p.name is.none_live in
      elim (cases_Bool (names_introduced p.name (cutoff (apis_from h.apis (floor_in h)) o))) [
        | inl introduced ↦ (RemovedApi, inl refl, record { no_api_key = is.no_api_key; none_live = none_live; introduced = introduced })
        | inr none ↦ elim (cases_Bool (names_some p.name (apis_from h.apis (floor_in h)))) [
          | inl some ↦ (AfterEmulated, inr (refl, inr refl), record { no_api_key = is.no_api_key; something = some; none_live = none_live; none_introduced = none })
          | inr nothing ↦ (UnknownApi, inr (refl, inl refl), record { no_api_key = is.no_api_key; nothing = nothing })
        ]
      ]

  refusal_from : (p : FlagPiece) (d : ConfigCause) → IsRefused (apis_from h.apis (floor_in h)) o p d → (c : ConfigCause) × IsCauseSeenAs c d × IsRefused h.apis o p c
  refusal_from p BadPair is = absurd is
  refusal_from p BadBool is = absurd is
  refusal_from p RemovedApi is = (
    RemovedApi,
    inl refl,
    record {
      no_api_key = is.no_api_key;
      none_live = none_live_named (cutoff (apis_from h.apis (floor_in h)) o) (cutoff h.apis o) back p.name is.none_live;
      introduced = introduced_among p.name (cutoff (apis_from h.apis (floor_in h)) o) (cutoff h.apis o) known_among is.introduced;
    },
  )
  refusal_from p AfterEmulated is =
      let none_live : names_live p.name (cutoff h.apis o) ≡ false = none_live_named (cutoff (apis_from h.apis (floor_in h)) o) (cutoff h.apis o) back p.name is.none_live in
      elim (cases_Bool (names_introduced p.name (cutoff h.apis o))) [
        | inl introduced ↦ (RemovedApi, inr (refl, inr refl), record { no_api_key = is.no_api_key; none_live = none_live; introduced = introduced })
        | inr none ↦ (
          AfterEmulated,
          inl refl,
          record { no_api_key = is.no_api_key; something = named_among p.name (apis_from h.apis (floor_in h)) h.apis left_among is.something; none_live = none_live; none_introduced = none },
        )
      ]
  refusal_from p UnknownApi is =
      elim (cases_Bool (names_some p.name h.apis)) [
        | inr nothing ↦ (UnknownApi, inl refl, record { no_api_key = is.no_api_key; nothing = nothing })
        | inl some ↦ elim (cases_Bool (names_introduced p.name (cutoff h.apis o))) [
          | inl introduced ↦
              let dead : names_live p.name (cutoff (apis_from h.apis (floor_in h)) o) ≡ false =
              false_from_ne_true (names_live p.name (cutoff (apis_from h.apis (floor_in h)) o)) (λ there. false≢true (sym is.nothing ∙ live_is_named (apis_from h.apis (floor_in h)) o p.name there)) in
              (RemovedApi, inr (refl, inl refl), record { no_api_key = is.no_api_key; none_live = none_live_named (cutoff (apis_from h.apis (floor_in h)) o) (cutoff h.apis o) back p.name dead; introduced = introduced })
          | inr none ↦ absurd (false≢true (sym is.nothing ∙ later_stays p.name some none))
        ]
      ]

  fault_kept : (text : List ℕ) (f : ConfigFault) → IsTextFault h.apis o text f → (g : ConfigFault) × IsSeenAs f g × IsTextFault (apis_from h.apis (floor_in h)) o text g
  fault_kept text Memory is = (Memory, inl refl, tt)
  fault_kept text OnlyAllFalse is = (OnlyAllFalse, inl refl, is)
  fault_kept text (At place cause) (inl is) = (At place cause, inl refl, inl is)
  fault_kept text (At place cause) (inr is) =
      let seen = refusal_kept is.1.piece cause is.1.first.faulty in (
        At place seen.0,
        fault_seen place cause seen.0 seen.1,
        inr (
          is.0,
          first_with (λ p. IsTakenKey (cutoff h.apis o) p.name) (λ p. IsTakenKey (cutoff (apis_from h.apis (floor_in h)) o) p.name) (λ p. IsRefused h.apis o p cause) (λ p. IsRefused (apis_from h.apis (floor_in h)) o p seen.0)
              (last_pieces (pieces text)) place (taken_along (cutoff h.apis o) (cutoff (apis_from h.apis (floor_in h)) o) same) is.1 seen.2,
        ),
      )

  fault_from : (text : List ℕ) (g : ConfigFault) → IsTextFault (apis_from h.apis (floor_in h)) o text g → (f : ConfigFault) × IsSeenAs f g × IsTextFault h.apis o text f
  fault_from text Memory is = (Memory, inl refl, tt)
  fault_from text OnlyAllFalse is = (OnlyAllFalse, inl refl, is)
  fault_from text (At place cause) (inl is) = (At place cause, inl refl, inl is)
  fault_from text (At place cause) (inr is) =
      let seen = refusal_from is.1.piece cause is.1.first.faulty in (
        At place seen.0,
        fault_seen place seen.0 cause seen.1,
        inr (
          is.0,
          first_with (λ p. IsTakenKey (cutoff (apis_from h.apis (floor_in h)) o) p.name) (λ p. IsTakenKey (cutoff h.apis o) p.name) (λ p. IsRefused (apis_from h.apis (floor_in h)) o p cause) (λ p. IsRefused h.apis o p seen.0)
              (last_pieces (pieces text)) place (taken_along (cutoff (apis_from h.apis (floor_in h)) o) (cutoff h.apis o) back) is.1 seen.2,
        ),
      )

pub faults_of_whole : (h : Dated) (o : ℕ) (text : List ℕ) → HasFaultsOfWhole h o text
faults_of_whole h o text accepted from = record {
  gates = same_faults h.gates (floor_in h) o from text;
  kept = fault_kept h accepted o from text;
  from = fault_from h accepted o from text;
}
