-- Two passes over the pieces of a text: over all of them, each by itself, and then over the last piece of each name.
use Rattle.std.proofs.Common.{◌≡◌, ◌⊎◌, ◌↔◌, inl, inr, ℕ, List, All, sym, ◌∙◌, ap, subst}
use Rattle.flag_text.specs.Passes.{StopsAt}
use Rattle.flag_text.specs.Pieces.{FlagPiece, last_pieces}
use Rattle.flag_text.proofs.PassLemmas.{first_refutes, first_with, one_at, stops_or_none}

-- the passes stop at this place for this cause: the first pass does, or else the second
abbrev pub StopFor : (C : Type 0) (Fine Taken : FlagPiece → Type 0) (Faulty Refused : FlagPiece → C → Type 0) → List FlagPiece → ℕ → C → Type 0
StopFor C Fine Taken Faulty Refused ps place c =
    StopsAt Fine (λ p. Faulty p c) ps place ⊎ (All Fine ps × StopsAt Taken (λ p. Refused p c) (last_pieces ps) place)

-- where the cause is determined by the piece, they stop at one place for one cause
pub one_stop : {C F : Type 0} (At : ℕ → C → F) (Fine Taken : FlagPiece → Type 0) (Faulty Refused : FlagPiece → C → Type 0) (ps : List FlagPiece) (m n : ℕ) (c d : C)
    → ((p : FlagPiece) (c : C) → Faulty p c → Fine p → ⊥) → ((p : FlagPiece) (c : C) → Refused p c → Taken p → ⊥)
    → ((p : FlagPiece) (c d : C) → Faulty p c → Faulty p d → c ≡ d) → ((p : FlagPiece) (c d : C) → Refused p c → Refused p d → c ≡ d)
    → StopFor C Fine Taken Faulty Refused ps m c → StopFor C Fine Taken Faulty Refused ps n d → At m c ≡ At n d
one_stop At Fine Taken Faulty Refused ps m n c d apart denied one once (inl h) (inl k) = one_at At Fine Faulty ps m n c d apart one h k
one_stop At Fine Taken Faulty Refused ps m n c d apart denied one once (inl h) (inr k) = absurd (first_refutes Fine (λ p. Faulty p c) ps m (λ p. apart p c) h k.0)
one_stop At Fine Taken Faulty Refused ps m n c d apart denied one once (inr h) (inl k) = absurd (first_refutes Fine (λ p. Faulty p d) ps n (λ p. apart p d) k h.0)
one_stop At Fine Taken Faulty Refused ps m n c d apart denied one once (inr h) (inr k) = one_at At Taken Refused (last_pieces ps) m n c d denied once h.1 k.1

-- where they stop, not all pieces are fine and all last ones taken
pub stop_refutes : {C : Type 0} (Fine Taken : FlagPiece → Type 0) (Faulty Refused : FlagPiece → C → Type 0) (ps : List FlagPiece) (place : ℕ) (c : C)
    → ((p : FlagPiece) (c : C) → Faulty p c → Fine p → ⊥) → ((p : FlagPiece) (c : C) → Refused p c → Taken p → ⊥)
    → StopFor C Fine Taken Faulty Refused ps place c → All Fine ps → All Taken (last_pieces ps) → ⊥
stop_refutes Fine Taken Faulty Refused ps place c apart denied (inl h) fine taken = first_refutes Fine (λ p. Faulty p c) ps place (λ p. apart p c) h fine
stop_refutes Fine Taken Faulty Refused ps place c apart denied (inr h) fine taken = first_refutes Taken (λ p. Refused p c) (last_pieces ps) place (λ p. denied p c) h.1 taken

-- where each piece is fine or faulty, and taken or refused, they stop somewhere or all is well
pub stop_or_none : {C : Type 0} (Fine Taken : FlagPiece → Type 0) (Faulty Refused : FlagPiece → C → Type 0) (ps : List FlagPiece)
    → ((p : FlagPiece) → Fine p ⊎ ((c : C) × Faulty p c)) → ((p : FlagPiece) → Taken p ⊎ ((c : C) × Refused p c))
    → (All Fine ps × All Taken (last_pieces ps)) ⊎ ((place : ℕ) × (c : C) × StopFor C Fine Taken Faulty Refused ps place c)
stop_or_none Fine Taken Faulty Refused ps fine taken = elim (stops_or_none Fine Faulty ps fine) [
  | inl all ↦ elim (stops_or_none Taken Refused (last_pieces ps) taken) [
    | inl good ↦ inl (all, good)
    | inr stop ↦ inr (stop.0, stop.1, inr (all, stop.2))
  ]
  | inr stop ↦ inr (stop.0, stop.1, inl stop.2)
]

-- ---- by other tables

-- where other tables take what these take, and refuse a piece for the same cause, or for `this` in place of `that`, the
-- passes stop there by the others too
pub stop_along : {C : Type 0} (Fine Taken Others : FlagPiece → Type 0) (Faulty Refused ByOthers : FlagPiece → C → Type 0) (ps : List FlagPiece) (place : ℕ) (c that this : C)
    → ((p : FlagPiece) → Taken p → Others p) → ((p : FlagPiece) → Refused p c → ByOthers p c ⊎ ((c ≡ that) × ByOthers p this))
    → StopFor C Fine Taken Faulty Refused ps place c
    → StopFor C Fine Others Faulty ByOthers ps place c ⊎ ((c ≡ that) × StopFor C Fine Others Faulty ByOthers ps place this)
stop_along Fine Taken Others Faulty Refused ByOthers ps place c that this along refused (inl h) = inl (inl h)
stop_along Fine Taken Others Faulty Refused ByOthers ps place c that this along refused (inr h) = elim (refused h.1.piece h.1.first.faulty) [
  | inl kept ↦ inl (inr (h.0, first_with Taken Others (λ p. Refused p c) (λ p. ByOthers p c) (last_pieces ps) place along h.1 kept))
  | inr other ↦ inr (other.0, inr (h.0, first_with Taken Others (λ p. Refused p c) (λ p. ByOthers p this) (last_pieces ps) place along h.1 other.1))
]

-- where by the cut history there are the faults of the whole or what is seen of them, and seen again they are the same,
-- they are what is seen of those of the whole
pub seen_faults : {F : Type 0} (seen : F → F) (Whole Cut : F → Type 0) → ((f : F) → Whole f → (g : F) × ((g ≡ f) ⊎ (g ≡ seen f)) × Cut g)
    → ((g : F) → Cut g → (f : F) × ((g ≡ f) ⊎ (g ≡ seen f)) × Whole f) → ((g : F) → Cut g → seen g ≡ g)
    → (g : F) → Cut g ↔ ((f : F) × Whole f × (g ≡ seen f))
seen_faults seen Whole Cut kept from again g = (
  λ h.
      let whole = from g h in
      (whole.0, whole.2, elim whole.1 [ inl same ↦ sym (again g h) ∙ ap seen same | inr is ↦ is ]),
  λ h.
      let cut = kept h.0 h.1 in
      let same : cut.0 ≡ g = elim cut.1 [ inl same ↦ sym (again cut.0 cut.2) ∙ ap seen same ∙ sym h.2 | inr is ↦ is ∙ sym h.2 ] in
      subst Cut same cut.2,
)
