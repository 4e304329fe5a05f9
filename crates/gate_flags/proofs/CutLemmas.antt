-- Texts by tables that say the same, and by a history that is cut at a release.
use Rattle.std.proofs.Common.{◌≡◌, ◌⊎◌, inl, inr, ℕ, ◌≤◌, true, arith, List, refl, sym, ◌∙◌, ap, subst}
use Rattle.std.specs.Prelude.{nat_le}
use Rattle.std.proofs.lemmas.List.Elements.{All-weaker}
use Rattle.basis.proofs.FilterLemmas.{Any-from_filter}
use Rattle.basis.proofs.OrderLemmas.{one_by_name}
use Rattle.gate_spec.specs.declared.entry.GateEntry.{GateEntry}
use Rattle.gate_spec.specs.Gates.{cutoff, HasGate}
use Rattle.gate_spec.specs.Laws.{IsKnownAlike}
use Rattle.gate_spec.specs.Same.{AreSameGates}
use Rattle.gate_spec.proofs.CutLemmas.{cutoff_within, known_within, gate_or_none, same_facts}
use Rattle.flag_text.specs.Pieces.{FlagPiece, pieces, last_pieces}
use Rattle.flag_text.proofs.TwoPassLemmas.{stop_along, seen_faults}
use Rattle.gate_flags.specs.Flags.{IsAssignment, IsAccepted, IsFeatureText, HasFault, IsRefused, IsTextFault}
use Rattle.gate_flags.specs.Laws.{IsTakenAlike, IsSeenAs, HasFaultsOfCut, HasUnforeseenFaults, unforeseen, unforeseen_fault}
use Rattle.gate_flags.specs.Values.{Gates, IsRow, AreGateValues}
use Rattle.gate_flags.specs.declared.fault.GateCause.{GateCause}
use Rattle.gate_flags.specs.declared.fault.GateCause.TheVariants.{Missing, BadBool, Unknown, PreAlpha, Locked}
use Rattle.gate_flags.specs.declared.fault.GateFault.{GateFault}
use Rattle.gate_flags.specs.declared.fault.GateFault.TheVariants.{Memory, At}
use Rattle.gate_flags.specs.declared.values.GateRow.{GateRow}
use Rattle.gate_flags.specs.declared.values.RemovedGate.{RemovedGate}

-- the tables and the text determine the values
pub values_one : (tables : List GateEntry) (ps : List FlagPiece) (a b : Gates) → AreGateValues tables ps a → AreGateValues tables ps b → a ≡ b
values_one tables ps a b h k =
    let rows : a.rows ≡ b.rows = one_by_name (λ (r : GateRow). r.name) a.rows b.rows h.order.rows k.order.rows (λ r. ((λ c. (k.rows r).1 ((h.rows r).0 c)), (λ c. (h.rows r).1 ((k.rows r).0 c)))) in
    let removed : a.removed ≡ b.removed = one_by_name (λ (r : RemovedGate). r.name) a.removed b.removed h.order.removed k.order.removed (λ r. ((λ c. (k.removed r).1 ((h.removed r).0 c)), (λ c. (h.removed r).1 ((k.removed r).0 c)))) in
    λ i. record { rows = rows i; removed = removed i }

pub same_gates_back : (xs ys : List GateEntry) → AreSameGates xs ys → AreSameGates ys xs
same_gates_back xs ys h = record {
  found = λ name stage default locked. ((h.found name stage default locked).1, (h.found name stage default locked).0);
  removed = λ name value. ((h.removed name value).1, (h.removed name value).0);
}

module _ (xs ys : List GateEntry) (h : AreSameGates xs ys) where
  accepted_along : (p : FlagPiece) → IsAccepted xs p → IsAccepted ys p
  accepted_along p (inl word) = inl word
  accepted_along p (inr s) = inr (s.0, s.1, s.2, (h.found p.name s.0 s.1 s.2).0 s.3, s.4)

  text_along : (text : List ℕ) → IsFeatureText xs text → IsFeatureText ys text
  text_along text valid = record {
    assignments = valid.assignments;
    accepted = All-weaker (IsAccepted xs) (IsAccepted ys) accepted_along (last_pieces (pieces text)) valid.accepted;
  }

  row_along : (ps : List FlagPiece) (row : GateRow) → IsRow xs ps row → IsRow ys ps row
  row_along ps row is = record { found = (h.found row.name row.stage row.default row.locked).0 is.found; value = is.value }

values_along : (xs ys : List GateEntry) (ps : List FlagPiece) (gates : Gates) → AreSameGates xs ys → AreGateValues xs ps gates → AreGateValues ys ps gates
values_along xs ys ps gates h values = record {
  order = values.order;
  rows = λ row. (
    λ there. row_along xs ys h ps row ((values.rows row).0 there),
    λ is. (values.rows row).1 (row_along ys xs (same_gates_back xs ys h) ps row is),
  );
  removed = λ gate. (
    λ there. (h.removed gate.name gate.value).0 ((values.removed gate).0 there),
    λ is. (values.removed gate).1 ((h.removed gate.name gate.value).1 is),
  );
}

pub taken_alike : (xs ys : List GateEntry) (text : List ℕ) → AreSameGates xs ys → IsTakenAlike xs ys text
taken_alike xs ys text h = record {
  accepted = (text_along xs ys h text, text_along ys xs (same_gates_back xs ys h) text);
  values = λ gates. (values_along xs ys (pieces text) gates h, values_along ys xs (pieces text) gates (same_gates_back xs ys h));
}

-- an earlier release has the same tables by the cut history
pub tables_within : (entries cut : List GateEntry) (o e : ℕ) → cut ≡ cutoff entries o → e ≤ o → cutoff entries e ≡ cutoff cut e
tables_within entries cut o e is within = sym (ap (λ xs. cutoff xs e) is ∙ cutoff_within entries o e within)

pub taken_within : (entries cut : List GateEntry) (text : List ℕ) (e : ℕ) → cutoff entries e ≡ cutoff cut e → IsTakenAlike (cutoff entries e) (cutoff cut e) text
taken_within entries cut text e same = record {
  accepted = same_facts (λ tables. IsFeatureText tables text) (cutoff entries e) (cutoff cut e) same;
  values = λ gates. same_facts (λ tables. AreGateValues tables (pieces text) gates) (cutoff entries e) (cutoff cut e) same;
}

gate_from_cut : (entries cut : List GateEntry) (name : List ℕ) (o : ℕ) → cut ≡ cutoff entries o → HasGate cut name → HasGate entries name
gate_from_cut entries cut name o is some = Any-from_filter (λ y. y.name ≡ name) (λ y. nat_le y.since o) entries (subst (λ t. HasGate t name) is some)

module _ (entries cut : List GateEntry) (o e : ℕ) (is : cut ≡ cutoff entries o) (within : e ≤ o) where
  known : (name : List ℕ) → IsKnownAlike entries cut name e
  known name = known_within entries cut name o e is within

  refusal_kept : (p : FlagPiece) (c : GateCause) → IsRefused entries e p c → IsRefused cut e p c ⊎ ((c ≡ PreAlpha) × IsRefused cut e p Unknown)
  refusal_kept p Missing h = absurd h
  refusal_kept p BadBool h = absurd h
  refusal_kept p Unknown h =
      inl (
        h.0,
        elim h.1 [
          | inl never ↦ inl (λ some. never (gate_from_cut entries cut p.name o is some))
          | inr gone ↦ inr (gone.0, ((known p.name).removed gone.0).1 gone.1)
        ],
      )
  refusal_kept p PreAlpha h = elim (gate_or_none cut p.name) [
    | inl some ↦ inl (h.0, (known p.name).later.1 (h.1, some))
    | inr none ↦ inr (refl, (h.0, inl none))
  ]
  refusal_kept p (Locked d) h = inl (h.0, (h.1.0, ((known p.name).found h.1.0 d true).1 h.1.1), h.2)

  refusal_from : (p : FlagPiece) (c : GateCause) → IsRefused cut e p c → IsRefused entries e p c ⊎ ((c ≡ Unknown) × IsRefused entries e p PreAlpha)
  refusal_from p Missing h = absurd h
  refusal_from p BadBool h = absurd h
  refusal_from p Unknown h = elim h.1 [
    | inl never ↦ elim ((known p.name).never.0 never).0 [
      | inl later ↦ inr (refl, (h.0, later))
      | inr nowhere ↦ inl (h.0, inl nowhere)
    ]
    | inr gone ↦ inl (h.0, inr (gone.0, ((known p.name).removed gone.0).0 gone.1))
  ]
  refusal_from p PreAlpha h = inl (h.0, ((known p.name).later.0 h.1).0)
  refusal_from p (Locked d) h = inl (h.0, (h.1.0, ((known p.name).found h.1.0 d true).0 h.1.1), h.2)

  abbrev same : cutoff entries e ≡ cutoff cut e
  same = tables_within entries cut o e is within

  fault_kept : (text : List ℕ) (f : GateFault) → IsTextFault entries e text f → (g : GateFault) × IsSeenAs f g × IsTextFault cut e text g
  fault_kept text Memory h = (Memory, inl refl, tt)
  fault_kept text (At place cause) h =
      elim (
      stop_along IsAssignment (IsAccepted (cutoff entries e)) (IsAccepted (cutoff cut e)) HasFault (IsRefused entries e) (IsRefused cut e) (pieces text) place cause PreAlpha Unknown
      (λ p. subst (λ t. IsAccepted t p) same) (λ p. refusal_kept p cause) h
      ) [
        | inl kept ↦ (At place cause, inl refl, kept)
        | inr other ↦ (At place Unknown, inr (ap (λ c. At place (unforeseen c)) (sym other.0)), other.1)
      ]

  fault_from : (text : List ℕ) (g : GateFault) → IsTextFault cut e text g → (f : GateFault) × IsSeenAs f g × IsTextFault entries e text f
  fault_from text Memory h = (Memory, inl refl, tt)
  fault_from text (At place cause) h =
      elim (
      stop_along IsAssignment (IsAccepted (cutoff cut e)) (IsAccepted (cutoff entries e)) HasFault (IsRefused cut e) (IsRefused entries e) (pieces text) place cause Unknown PreAlpha
      (λ p. subst (λ t. IsAccepted t p) (sym same)) (λ p. refusal_from p cause) h
      ) [
        | inl kept ↦ (At place cause, inl refl, kept)
        | inr other ↦ (At place PreAlpha, inr (ap (At place) other.0), other.1)
      ]

  pub faults_of_cut : (text : List ℕ) → HasFaultsOfCut entries cut e text
  faults_of_cut text = record { kept = fault_kept text; from = fault_from text }

module _ (entries cut : List GateEntry) (o : ℕ) (is : cut ≡ cutoff entries o) where
  abbrev whole : o ≤ o
  whole = omega arith

  none_later : (p : FlagPiece) → IsRefused cut o p PreAlpha → ⊥
  none_later p h = h.1.0 (subst (λ t. HasGate t p.name) (is ∙ tables_within entries cut o o is whole) h.1.1)

  foreseen : (text : List ℕ) (g : GateFault) → IsTextFault cut o text g → unforeseen_fault g ≡ g
  foreseen text Memory h = refl
  foreseen text (At place Missing) h = refl
  foreseen text (At place BadBool) h = refl
  foreseen text (At place Unknown) h = refl
  foreseen text (At place (Locked d)) h = refl
  foreseen text (At place PreAlpha) (inl h) = absurd h.first.faulty
  foreseen text (At place PreAlpha) (inr h) = absurd (none_later h.1.piece h.1.first.faulty)

  pub unforeseen_faults : (text : List ℕ) → HasUnforeseenFaults entries cut o text
  unforeseen_faults text =
      let faults = faults_of_cut entries cut o o is whole text in
      seen_faults unforeseen_fault (IsTextFault entries o text) (IsTextFault cut o text) faults.kept faults.from (foreseen text)
