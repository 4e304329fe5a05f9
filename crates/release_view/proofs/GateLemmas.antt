-- The values that a valid text gives to the gates of an accepted history are values that a view may hold.
use Rattle.std.proofs.Common.{◌≡◌, ◌↔◌, inl, inr, ℕ, Bool, true, Option, Some, None, List, All, Any, get_or, refl, sym, ◌∙◌, ap, subst}
use Rattle.std.specs.Prelude.{find, nat_le, unwrap_or}
use Rattle.std.specs.Option.{option_and_then}
use Rattle.std.specs.Str.{bytes_eq}
use Rattle.std.proofs.lemmas.Bool.{false≢true}
use Rattle.std.proofs.lemmas.List.Elements.{All-from_recursion, All-weaker, All-filter, All-contains, Contains-get_or}
use Rattle.std.proofs.lemmas.Option.{slice_get-get_or}
use Rattle.std.proofs.lemmas.Slice.Eq.{bytes_eq-Decides}
use Rattle.basis.proofs.ElementLemmas.{Any-from}
use Rattle.flag_text.specs.Pieces.{FlagPiece, pieces, last_pieces}
use Rattle.flag_text.specs.Said.{said, last_said}
use Rattle.flag_text.specs.declared.vocabulary.Vocabulary.TheVariants.{Go}
use Rattle.gate_flags.specs.Flags.{IsFeatureText, IsAllWord, IsAccepted as IsTaken}
use Rattle.gate_flags.specs.Values.{Gates, AreGateValues, all_given, gate_value}
use Rattle.gate_flags.specs.declared.values.GateRow.{GateRow}
use Rattle.gate_spec.specs.Gates.{cutoff, IsFoundIn}
use Rattle.gate_spec.specs.declared.entry.GateEntry.{GateEntry}
use Rattle.gate_spec.specs.declared.entry.GateChange.TheVariants.{Spec}
use Rattle.gate_spec.specs.declared.entry.SpecAt.{SpecAt}
use Rattle.gate_spec.specs.declared.entry.SpecAt.TheVariants.{Found, PreAlpha, Removed, Never}
use Rattle.gate_spec.specs.declared.entry.Stage.{Stage}
use Rattle.gate_spec.specs.declared.entry.Stage.TheVariants.{Alpha, Beta, Ga, Deprecated}
use Rattle.gate_spec.proofs.GateLemmas.{spec_at_one}
use Rattle.schemas.specs.Dated.{Dated, IsShaped}
use Rattle.schemas.specs.GateRules.{IsFitSpec}
use Rattle.schemas.specs.Rules.{IsAccepted}
use Rattle.schemas.specs.Shapes.{IsGateName, IsShapedGate}
use Rattle.schemas.proofs.AcceptedLemmas as hr
use Rattle.schemas.proofs.LawLemmas.{gates_rise}
use Rattle.release_view.specs.Gates.{IsRowOf, AreGatesOf}
use Rattle.release_view.proofs.ListLemmas.{found, witness}

-- no text speaks of the stage of a locked gate
no_stage : (stage : Stage) (default : Bool) (ps : List FlagPiece) → IsFitSpec (Spec stage default true) → all_given ps stage ≡ None
no_stage Alpha default ps fit = absurd (false≢true (sym fit.1))
no_stage Beta default ps fit = absurd (false≢true (sym fit))
no_stage Ga default ps fit = refl
no_stage Deprecated default ps fit = refl

module _ (h : Dated) (shaped : IsShaped h) (accepted : IsAccepted h) (e : ℕ) (text : List ℕ) (valid : IsFeatureText (cutoff h.gates e) text) where
  abbrev tables : List GateEntry
  tables = cutoff h.gates e

  fits : All (λ x. IsFitSpec x.change) tables
  fits = All-filter (λ x. nat_le x.since e) (λ x. IsFitSpec x.change) h.gates (λ k d below. (hr.gates_fit_stages h accepted) k (get_or h.gates k d) (slice_get-get_or h.gates k d below))

  names : All (λ x. IsGateName x.name) tables
  names = All-filter (λ x. nat_le x.since e) (λ x. IsGateName x.name) h.gates
      (All-weaker IsShapedGate (λ x. IsGateName x.name) (λ x s. s.name) h.gates (All-from_recursion IsShapedGate h.gates shaped.gates))

  one_default : (name : List ℕ) (s t : Stage) (a b l m : Bool) → IsFoundIn tables name s a l → IsFoundIn tables name t b m → (a ≡ b) × (l ≡ m)
  one_default name s t a b l m p q =
      let same : Found s a l ≡ Found t b m = spec_at_one h.gates name e (Found s a l) (Found t b m) (gates_rise h accepted) p q in
      let default : SpecAt → Bool = λ k. elim k [ Found _ d _ ↦ d | PreAlpha ↦ a | Removed _ ↦ a | Never ↦ a ] in
      let lock : SpecAt → Bool = λ k. elim k [ Found _ _ d ↦ d | PreAlpha ↦ l | Removed _ ↦ l | Never ↦ l ] in
      (ap default same, ap lock same)

  no_word : (name : List ℕ) (stage : Stage) (default locked : Bool) → IsFoundIn tables name stage default locked → IsAllWord name → ⊥
  no_word name stage default locked there (inl word) =
      let is_name = All-contains (λ x. IsGateName x.name) tables there.0 names there.1.among in
      is_name.not_all_alpha (there.1.named ∙ word)
  no_word name stage default locked there (inr word) =
      let is_name = All-contains (λ x. IsGateName x.name) tables there.0 names there.1.among in
      is_name.not_all_beta (there.1.named ∙ word)

  -- what a text gives a locked gate is its default
  given_locked : (name : List ℕ) (stage : Stage) (default : Bool) (o : Option FlagPiece) → IsFoundIn tables name stage default true → find (λ p. bytes_eq p.name name) (last_pieces (pieces text)) ≡ o
      → unwrap_or (option_and_then (said Go) o) default ≡ default
  given_locked name stage default None there e = refl
  given_locked name stage default (Some p) there e =
      let (among, same) = found (λ p. bytes_eq p.name name) (last_pieces (pieces text)) p e in
      let named : p.name ≡ name = (bytes_eq-Decides p.name name).0 same in
      elim (All-contains (IsTaken tables) (last_pieces (pieces text)) p valid.accepted among) [
        | inl word ↦ absurd (no_word name stage default true there (subst IsAllWord named word))
        | inr s ↦
            (let other : IsFoundIn tables name s.0 s.1 s.2 = subst (λ n. IsFoundIn tables n s.0 s.1 s.2) named s.3 in
            let (defaults, locks) = one_default name stage s.0 default s.1 true s.2 there other in
            ap (λ o. unwrap_or o default) (s.4 (sym locks)) ∙ sym defaults)
      ]

  locked_default : (name : List ℕ) (stage : Stage) (default locked value : Bool) → IsFoundIn tables name stage default locked → locked ≡ true → value ≡ gate_value (pieces text) name stage default → value ≡ default
  locked_default name stage default locked value there lock is =
      let kept : IsFoundIn tables name stage default true = subst (λ l. IsFoundIn tables name stage default l) lock there in
      let fit : IsFitSpec (Spec stage default true) = subst IsFitSpec kept.2 (All-contains (λ x. IsFitSpec x.change) tables kept.0 fits kept.1.among) in
      is ∙ ap (λ o. unwrap_or (last_said Go (pieces text) name) (unwrap_or o default)) (no_stage stage default (pieces text) fit)
      ∙ given_locked name stage default (find (λ p. bytes_eq p.name name) (last_pieces (pieces text))) kept refl

  module _ (gates : Gates) (values : AreGateValues tables (pieces text) gates) where
    found_rows : (name : List ℕ) (stage : Stage) (default locked : Bool) → Any (IsRowOf name stage default locked) gates.rows ↔ IsFoundIn tables name stage default locked
    found_rows name stage default locked = (
      λ any.
          let (row, among, of) = witness (IsRowOf name stage default locked) gates.rows any in
          let there = ((values.rows row).0 among).found in
          subst (λ n. IsFoundIn tables n stage default locked) of.of_name
          (subst (λ s. IsFoundIn tables row.name s default locked) of.of_stage
          (subst (λ d. IsFoundIn tables row.name row.stage d locked) of.of_default
          (subst (λ l. IsFoundIn tables row.name row.stage row.default l) of.of_locked there))),
      λ there.
          let row : GateRow = record { name = name; stage = stage; default = default; locked = locked; value = gate_value (pieces text) name stage default } in
          Any-from (IsRowOf name stage default locked) gates.rows row ((values.rows row).1 (record { found = there; value = refl }))
          (record { of_name = refl; of_stage = refl; of_default = refl; of_locked = refl }),
    )

    pub values_fit : AreGatesOf tables gates
    values_fit = record {
      found = found_rows;
      locked = λ k d below. λ lock.
          let row : GateRow = get_or gates.rows k d in
          let is = (values.rows row).0 (Contains-get_or gates.rows k d below) in
          locked_default row.name row.stage row.default row.locked row.value is.found lock is.value;
      removed = values.removed;
    }
