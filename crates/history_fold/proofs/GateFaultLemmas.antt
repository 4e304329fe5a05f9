-- Texts of gates by a history that is folded have the faults that they have by the whole one.
use Rattle.std.proofs.Common.{ℕ, ◌↔◌, ◌<◌, ◌≤◌, not, List, true, Contains, refl, ◌∙◌, arith, inl, inr}
use Rattle.std.proofs.lemmas.Bool.{cases_Bool, not_from_false}
use Rattle.basis.proofs.FilterLemmas.{Contains-filter, Contains-from_filter}
use Rattle.flag_text.specs.Pieces.{FlagPiece, pieces, last_pieces}
use Rattle.flag_text.proofs.PassLemmas.{first_with}
use Rattle.gate_flags.specs.Flags.{IsAccepted, IsRefused, IsTextFault}
use Rattle.gate_flags.specs.declared.fault.GateCause.{GateCause}
use Rattle.gate_flags.specs.declared.fault.GateCause.TheVariants.{Missing, BadBool, Unknown, PreAlpha, Locked}
use Rattle.gate_flags.specs.declared.fault.GateFault.{GateFault}
use Rattle.gate_flags.specs.declared.fault.GateFault.TheVariants.{Memory, At}
use Rattle.gate_spec.specs.Gates.{cutoff, HasGate, IsSpecAt}
use Rattle.gate_spec.specs.Same.{AreSameGates}
use Rattle.gate_spec.specs.declared.entry.GateEntry.{GateEntry}
use Rattle.gate_spec.specs.declared.entry.SpecAt.{SpecAt}
use Rattle.gate_spec.specs.declared.entry.SpecAt.TheVariants.{Found, PreAlpha as ComesLater, Removed, Never}
use Rattle.history_fold.specs.Folded.{IsLaterSpec, is_past, gates_from}
use Rattle.history_fold.proofs.GateFoldLemmas.{IsHeir, heir_of, past_said, IsThinned, thinned_at, same_where_thinned, has_down, has_up}

-- the two histories name the same gates
pub thinned_whole : (gates : List GateEntry) (floor : ℕ) → IsThinned gates (gates_from gates floor)
thinned_whole gates floor = record {
  fewer = λ y h. Contains-from_filter (λ z. not (is_past gates floor z)) gates y h;
  heir = λ (x : GateEntry) (among : Contains gates x).
      elim (cases_Bool (is_past gates floor x)) [
        | inr stays ↦ (x, Contains-filter (λ z. not (is_past gates floor z)) gates x among (not_from_false (is_past gates floor x) stays), refl, (λ spec. spec), inl refl)
        | inl past ↦
            let y = (past_said gates floor x past).1 in
            let is : IsLaterSpec floor x y.1 = y.4 in
            let found = heir_of gates floor y.1 (y.0, y.2, y.3) is.spec is.dated in
            let heir : IsHeir gates floor y.1 found.0 = found.1 in
            let later : x.since < y.1.since = is.later in
            let not_before : y.1.since ≤ found.0.since = heir.later in
            let after : x.since < found.0.since = omega arith in
            (found.0, Contains-filter (λ z. not (is_past gates floor z)) gates found.0 heir.among heir.stays, heir.named ∙ is.named, (λ spec. heir.spec), inr after)
      ];
}

-- what two lists of changes say of each gate at the release
pub record SayTheSame (xs ys : List GateEntry) (o : ℕ) : Type 0 where
  pub tables : AreSameGates (cutoff xs o) (cutoff ys o)
  pub known : (name : List ℕ) → HasGate (cutoff xs o) name ↔ HasGate (cutoff ys o) name
  pub named : (name : List ℕ) → HasGate xs name ↔ HasGate ys name

turned : (xs ys : List GateEntry) (o : ℕ) → SayTheSame xs ys o → SayTheSame ys xs o
turned xs ys o same = record {
  tables = record {
    found = λ name stage default locked. let s = same.tables.found name stage default locked in (s.1, s.0);
    removed = λ name value. let s = same.tables.removed name value in (s.1, s.0);
  };
  known = λ name. let s = same.known name in (s.1, s.0);
  named = λ name. let s = same.named name in (s.1, s.0);
}

module _ (xs ys : List GateEntry) (o : ℕ) (same : SayTheSame xs ys o) where
  spec_along : (name : List ℕ) (s : SpecAt) → IsSpecAt xs name o s → IsSpecAt ys name o s
  spec_along name (Found stage default locked) h = (same.tables.found name stage default locked).0 h
  spec_along name (Removed value) h = (same.tables.removed name value).0 h
  spec_along name ComesLater h = ((λ some. h.0 ((same.known name).1 some)), (same.named name).0 h.1)
  spec_along name Never h = λ some. h ((same.named name).1 some)

  accepted_along : (p : FlagPiece) → IsAccepted (cutoff xs o) p → IsAccepted (cutoff ys o) p
  accepted_along p (inl all) = inl all
  accepted_along p (inr is) = inr (is.0, is.1, is.2, (same.tables.found p.name is.0 is.1 is.2).0 is.3, is.4)

  refused_along : (p : FlagPiece) (c : GateCause) → IsRefused xs o p c → IsRefused ys o p c
  refused_along p Missing h = absurd h
  refused_along p BadBool h = absurd h
  refused_along p Unknown h = (h.0, elim h.1 [ inl never ↦ inl (spec_along p.name Never never) | inr gone ↦ inr (gone.0, spec_along p.name (Removed gone.0) gone.1) ])
  refused_along p PreAlpha h = (h.0, spec_along p.name ComesLater h.1)
  refused_along p (Locked default) h = (h.0, (h.1.0, spec_along p.name (Found h.1.0 default true) h.1.1), h.2)

  pub fault_along : (text : List ℕ) (f : GateFault) → IsTextFault xs o text f → IsTextFault ys o text f
  fault_along text Memory h = tt
  fault_along text (At place cause) (inl h) = inl h
  fault_along text (At place cause) (inr h) =
      inr (
        h.0,
        first_with (IsAccepted (cutoff xs o)) (IsAccepted (cutoff ys o)) (λ p. IsRefused xs o p cause) (λ p. IsRefused ys o p cause) (last_pieces (pieces text)) place accepted_along h.1
            (refused_along h.1.piece cause h.1.first.faulty),
      )

says_the_same : (gates : List GateEntry) (floor o : ℕ) → floor ≤ o → SayTheSame gates (gates_from gates floor) o
says_the_same gates floor o from = record {
  tables = same_where_thinned (cutoff gates o) (cutoff (gates_from gates floor) o) (thinned_at gates floor o from);
  known = λ name. (has_down (cutoff gates o) (cutoff (gates_from gates floor) o) (thinned_at gates floor o from) name, has_up (cutoff gates o) (cutoff (gates_from gates floor) o) (thinned_at gates floor o from) name);
  named = λ name. (has_down gates (gates_from gates floor) (thinned_whole gates floor) name, has_up gates (gates_from gates floor) (thinned_whole gates floor) name);
}

pub same_faults : (gates : List GateEntry) (floor o : ℕ) → floor ≤ o → (text : List ℕ) (f : GateFault) → IsTextFault gates o text f ↔ IsTextFault (gates_from gates floor) o text f
same_faults gates floor o from text f =
    let same = says_the_same gates floor o from in
    (fault_along gates (gates_from gates floor) o same text f, fault_along (gates_from gates floor) gates o (turned gates (gates_from gates floor) o same) text f)
