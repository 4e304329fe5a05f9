-- Texts by tables that say the same, and by a history that is cut at a release.
use Rattle.std.proofs.Common.{◌≡◌, ◌↔◌, ◌⊎◌, ◌&&◌, inl, inr, ℕ, ◌≤◌, true, false, arith, List, Contains, Option, Some, None, refl, sym, ◌∙◌, ap, subst}
use Rattle.std.specs.Prelude.{nat_le}
use Rattle.std.specs.Option.{option_map_or, option_and_then}
use Rattle.std.proofs.lemmas.Bool.{cases_Bool, false≢true, and_parts, and_from, false_from_ne_true, leb-true, le-leb}
use Rattle.std.proofs.lemmas.List.Elements.{All-weaker, All-contains}
use Rattle.std.proofs.lemmas.List.Folds.{Any-from_list_any, list_any-from_Any}
use Rattle.basis.proofs.ElementLemmas.{Any-from}
use Rattle.basis.proofs.FilterLemmas.{Contains-filter, Contains-from_filter, passes_from_filter}
use Rattle.flag_text.specs.Pieces.{FlagPiece, pieces, last_pieces}
use Rattle.flag_text.proofs.TwoPassLemmas.{stop_along, seen_faults}
use Rattle.lifecycle.specs.Entry.{GroupVersionResource, subject, IsIntroduction, IsIntroduced}
use Rattle.lifecycle.specs.Same.{introduction_of, AreSameVersions}
use Rattle.lifecycle.specs.Tables.{cutoff, is_introduction, first_change, live}
use Rattle.lifecycle.specs.declared.entry.ApiEntry.{ApiEntry}
use Rattle.lifecycle.specs.declared.entry.ApiChange.{ApiChange}
use Rattle.lifecycle.specs.declared.entry.ApiChange.TheVariants.{Introduced, Deprecated, Removed, Forgotten}
use Rattle.lifecycle.proofs.CutLemmas.{cut_tables}
use Rattle.lifecycle.proofs.SameLemmas.{live_is_spoken_of, same_versions_back}
use Rattle.runtime_config.specs.Config.{IsPair, IsTakenKey, IsRuntimeText, IsServed, AreServed, HasFault, IsRemovedKey, IsRefused, IsTextFault, names_some, names_introduced, names_live, enables, enabled_by_default}
use Rattle.runtime_config.specs.Keys.{names}
use Rattle.runtime_config.specs.Laws.{IsTakenAlike, IsSeenAs, HasFaultsOfCut, AreIntroduced, HasUnforeseenFaults, unforeseen, unforeseen_fault}
use Rattle.runtime_config.specs.declared.fault.ConfigCause.{ConfigCause}
use Rattle.runtime_config.specs.declared.fault.ConfigCause.TheVariants.{BadPair, BadBool, UnknownApi, AfterEmulated, RemovedApi}
use Rattle.runtime_config.specs.declared.fault.ConfigFault.{ConfigFault}
use Rattle.runtime_config.specs.declared.fault.ConfigFault.TheVariants.{Memory, At, OnlyAllFalse}
use Rattle.runtime_config.proofs.RefusalLemmas.{list_any-filter, any_weaker, live_is_named, introduced_is_named}

enables_is : (c : ApiChange) → enables c ≡ option_map_or (λ i. i.enabled) (introduction_of c) false
enables_is (Introduced kind singular namespaced enabled) = refl
enables_is (Deprecated removal replacement) = refl
enables_is Removed = refl
enables_is Forgotten = refl

default_is : (o : Option ApiEntry) → option_map_or (λ x. enables x.change) o false ≡ option_map_or (λ i. i.enabled) (option_and_then (λ x. introduction_of x.change) o) false
default_is None = refl
default_is (Some x) = enables_is x.change

module _ (xs ys : List ApiEntry) (h : AreSameVersions xs ys) where
  live_named : (key : List ℕ) → names_live key xs ≡ true → names_live key ys ≡ true
  live_named key there =
      let x = Any-from_list_any (λ x. names key (subject x) && live xs (subject x)) xs there in
      let parts = and_parts (names key (subject x.1)) (live xs (subject x.1)) x.4 in
      let spoken = live_is_spoken_of ys (subject x.1) (sym (h.live (subject x.1)) ∙ parts.1) in
      list_any-from_Any (λ y. names key (subject y) && live ys (subject y)) ys
      (Any-from (λ y. (names key (subject y) && live ys (subject y)) ≡ true) ys spoken.0 spoken.1
      (and_from (names key (subject spoken.0)) (live ys (subject spoken.0))
      (ap (names key) spoken.2 ∙ parts.0) (ap (live ys) spoken.2 ∙ sym (h.live (subject x.1)) ∙ parts.1)))

  taken_along : (p : FlagPiece) → IsTakenKey xs p.name → IsTakenKey ys p.name
  taken_along p (inl api) = inl api
  taken_along p (inr there) = inr (live_named p.name there)

  text_along : (text : List ℕ) → IsRuntimeText xs text → IsRuntimeText ys text
  text_along text valid = record {
    pairs = valid.pairs;
    taken = All-weaker (λ p. IsTakenKey xs p.name) (λ p. IsTakenKey ys p.name) taken_along (last_pieces (pieces text)) valid.taken;
    more = valid.more;
  }

  default_along : (name : GroupVersionResource) → live xs name ≡ true → enabled_by_default xs name ≡ enabled_by_default ys name
  default_along name there =
      default_is (first_change is_introduction xs name) ∙ ap (λ o. option_map_or (λ i. i.enabled) o false) (h.live_as name there)
      ∙ sym (default_is (first_change is_introduction ys name))

  served_along : (ps : List FlagPiece) (name : GroupVersionResource) → IsServed xs ps name → IsServed ys ps name
  served_along ps name is =
      let same = default_along name is.live in
      record { live = sym (h.live name) ∙ is.live; word = is.word; has_word = is.has_word; on = rw (sym same) is.on }

same_served : (xs ys : List ApiEntry) (ps : List FlagPiece) (names : List GroupVersionResource) → AreSameVersions xs ys → AreServed xs ps names → AreServed ys ps names
same_served xs ys ps names h served = record {
  order = served.order;
  exact = λ name. (
    λ there. served_along xs ys h ps name ((served.exact name).0 there),
    λ is. (served.exact name).1 (served_along ys xs (same_versions_back xs ys h) ps name is),
  );
}

pub taken_alike : (xs ys : List ApiEntry) (text : List ℕ) → AreSameVersions xs ys → IsTakenAlike xs ys text
taken_alike xs ys text h = record {
  accepted = (text_along xs ys h text, text_along ys xs (same_versions_back xs ys h) text);
  served = λ names. (same_served xs ys (pieces text) names h, same_served ys xs (pieces text) names (same_versions_back xs ys h));
}

same_facts : {X : Type 0} (P : X → Type 0) (x y : X) → x ≡ y → P x ↔ P y
same_facts P x y same = (subst P same, subst P (sym same))

pub taken_within : (entries cut : List ApiEntry) (text : List ℕ) (e : ℕ) → cutoff entries e ≡ cutoff cut e → IsTakenAlike (cutoff entries e) (cutoff cut e) text
taken_within entries cut text e same = record {
  accepted = same_facts (λ tables. IsRuntimeText tables text) (cutoff entries e) (cutoff cut e) same;
  served = λ names. same_facts (λ tables. AreServed tables (pieces text) names) (cutoff entries e) (cutoff cut e) same;
}

module _ (entries cut : List ApiEntry) (o e : ℕ) (is : cut ≡ cutoff entries o) (within : e ≤ o) where
  abbrev same : cutoff entries e ≡ cutoff cut e
  same = cut_tables entries cut o e is within

  named_in_cut : (key : List ℕ) → names_some key cut ≡ true → names_some key entries ≡ true
  named_in_cut key some =
      any_weaker (λ x. nat_le x.since o && names key (subject x)) (λ x. names key (subject x)) entries
      (λ x both. (and_parts (nat_le x.since o) (names key (subject x)) both).1)
      (sym (list_any-filter (λ x. names key (subject x)) (λ x. nat_le x.since o) entries) ∙ ap (names_some key) (sym is) ∙ some)

  refusal_kept : (p : FlagPiece) (c : ConfigCause) → IsRefused entries e p c → IsRefused cut e p c ⊎ ((c ≡ AfterEmulated) × IsRefused cut e p UnknownApi)
  refusal_kept p BadPair h = absurd h
  refusal_kept p BadBool h = absurd h
  refusal_kept p UnknownApi h = inl (record {
    no_api_key = h.no_api_key;
    nothing = false_from_ne_true (names_some p.name cut) (λ some. false≢true (sym h.nothing ∙ named_in_cut p.name some));
  })
  refusal_kept p RemovedApi h = inl (subst (λ t. IsRemovedKey t p.name) same h)
  refusal_kept p AfterEmulated h = elim (cases_Bool (names_some p.name cut)) [
    | inl some ↦ inl (record {
      no_api_key = h.no_api_key;
      something = some;
      none_live = ap (names_live p.name) (sym same) ∙ h.none_live;
      none_introduced = ap (names_introduced p.name) (sym same) ∙ h.none_introduced;
    })
    | inr none ↦ inr (refl, record { no_api_key = h.no_api_key; nothing = none })
  ]

  refusal_from : (p : FlagPiece) (c : ConfigCause) → IsRefused cut e p c → IsRefused entries e p c ⊎ ((c ≡ UnknownApi) × IsRefused entries e p AfterEmulated)
  refusal_from p BadPair h = absurd h
  refusal_from p BadBool h = absurd h
  refusal_from p UnknownApi h = elim (cases_Bool (names_some p.name entries)) [
    | inr none ↦ inl (record { no_api_key = h.no_api_key; nothing = none })
    | inl some ↦ inr (
      refl,
      record {
        no_api_key = h.no_api_key;
        something = some;
        none_live = ap (names_live p.name) same ∙ false_from_ne_true (names_live p.name (cutoff cut e)) (λ there. false≢true (sym h.nothing ∙ live_is_named cut e p.name there));
        none_introduced = ap (names_introduced p.name) same ∙ false_from_ne_true (names_introduced p.name (cutoff cut e)) (λ there. false≢true (sym h.nothing ∙ introduced_is_named cut e p.name there));
      },
    )
  ]
  refusal_from p RemovedApi h = inl (subst (λ t. IsRemovedKey t p.name) (sym same) h)
  refusal_from p AfterEmulated h = inl (record {
    no_api_key = h.no_api_key;
    something = named_in_cut p.name h.something;
    none_live = ap (names_live p.name) same ∙ h.none_live;
    none_introduced = ap (names_introduced p.name) same ∙ h.none_introduced;
  })

  abbrev Taken : List ApiEntry → FlagPiece → Type 0
  Taken tables p = IsTakenKey tables p.name

  fault_kept : (text : List ℕ) (f : ConfigFault) → IsTextFault entries e text f → (g : ConfigFault) × IsSeenAs f g × IsTextFault cut e text g
  fault_kept text Memory h = (Memory, inl refl, tt)
  fault_kept text OnlyAllFalse h = (OnlyAllFalse, inl refl, h)
  fault_kept text (At place cause) h =
      elim (
      stop_along IsPair (Taken (cutoff entries e)) (Taken (cutoff cut e)) HasFault (IsRefused entries e) (IsRefused cut e) (pieces text) place cause AfterEmulated UnknownApi
      (λ p. subst (λ t. Taken t p) same) (λ p. refusal_kept p cause) h
      ) [
        | inl kept ↦ (At place cause, inl refl, kept)
        | inr other ↦ (At place UnknownApi, inr (ap (λ c. At place (unforeseen c)) (sym other.0)), other.1)
      ]

  fault_from : (text : List ℕ) (g : ConfigFault) → IsTextFault cut e text g → (f : ConfigFault) × IsSeenAs f g × IsTextFault entries e text f
  fault_from text Memory h = (Memory, inl refl, tt)
  fault_from text OnlyAllFalse h = (OnlyAllFalse, inl refl, h)
  fault_from text (At place cause) h =
      elim (
      stop_along IsPair (Taken (cutoff cut e)) (Taken (cutoff entries e)) HasFault (IsRefused cut e) (IsRefused entries e) (pieces text) place cause UnknownApi AfterEmulated
      (λ p. subst (λ t. Taken t p) (sym same)) (λ p. refusal_from p cause) h
      ) [
        | inl kept ↦ (At place cause, inl refl, kept)
        | inr other ↦ (At place AfterEmulated, inr (ap (At place) other.0), other.1)
      ]

  pub faults_of_cut : (text : List ℕ) → HasFaultsOfCut entries cut e text
  faults_of_cut text = record { kept = fault_kept text; from = fault_from text }

introduction_is : (c : ApiChange) → IsIntroduction c → is_introduction c ≡ true
introduction_is (Introduced kind singular namespaced enabled) h = refl
introduction_is (Deprecated removal replacement) h = absurd h
introduction_is Removed h = absurd h
introduction_is Forgotten h = absurd h

module _ (entries cut : List ApiEntry) (o : ℕ) (is : cut ≡ cutoff entries o) (led : AreIntroduced entries) where
  abbrev whole : o ≤ o
  whole = omega arith

  -- what the cut history speaks of, it introduces
  introduced_there : (key : List ℕ) → names_some key cut ≡ true → names_introduced key (cutoff cut o) ≡ true
  introduced_there key some =
      let x = Any-from_list_any (λ x. names key (subject x)) (cutoff entries o) (ap (names_some key) (sym is) ∙ some) in
      let among : Contains (cutoff entries o) x.1 = (x.0, x.2, x.3) in
      let dated : x.1.since ≤ o = leb-true x.1.since o (passes_from_filter (λ y. nat_le y.since o) entries x.1 among) in
      let y = All-contains (λ z. IsIntroduced entries (subject z) z.since) entries x.1 led (Contains-from_filter (λ z. nat_le z.since o) entries x.1 among) in
      let early : y.1.since ≤ x.1.since = y.4.0.dated in
      let kept : Contains (cutoff entries o) y.1 = Contains-filter (λ z. nat_le z.since o) entries y.1 (y.0, y.2, y.3) (le-leb y.1.since o (omega arith)) in
      let same : subject y.1 ≡ subject x.1 = λ i. record { group = y.4.0.group i; version = y.4.0.version i; resource = y.4.0.resource i } in
      ap (names_introduced key) (sym (cut_tables entries cut o o is whole))
      ∙ list_any-from_Any (λ z. names key (subject z) && is_introduction z.change) (cutoff entries o)
      (Any-from (λ z. (names key (subject z) && is_introduction z.change) ≡ true) (cutoff entries o) y.1 kept
      (and_from (names key (subject y.1)) (is_introduction y.1.change) (ap (names key) same ∙ x.4) (introduction_is y.1.change y.4.1)))

  foreseen : (text : List ℕ) (g : ConfigFault) → IsTextFault cut o text g → unforeseen_fault g ≡ g
  foreseen text Memory h = refl
  foreseen text OnlyAllFalse h = refl
  foreseen text (At place BadPair) h = refl
  foreseen text (At place BadBool) h = refl
  foreseen text (At place UnknownApi) h = refl
  foreseen text (At place RemovedApi) h = refl
  foreseen text (At place AfterEmulated) (inl h) = absurd h.first.faulty
  foreseen text (At place AfterEmulated) (inr h) =
      let later = h.1.first.faulty in
      absurd (false≢true (sym later.none_introduced ∙ introduced_there h.1.piece.name later.something))

  pub unforeseen_faults : (text : List ℕ) → HasUnforeseenFaults entries cut o text
  unforeseen_faults text =
      let faults = faults_of_cut entries cut o o is whole text in
      seen_faults unforeseen_fault (IsTextFault entries o text) (IsTextFault cut o text) faults.kept faults.from (foreseen text)
