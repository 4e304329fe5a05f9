-- Faults of pieces.
use Rattle.std.proofs.Common.{◌≡◌, inl, inr, ℕ, true, List, All, Some, Result, Ok, Err, IfErr, refl, ◌∙◌, ap, subst}
use Rattle.gate_spec.specs.declared.entry.GateEntry.{GateEntry}
use Rattle.gate_spec.specs.declared.entry.SpecAt.TheVariants.{Found, Removed, Never, PreAlpha as ComesLater}
use Rattle.gate_spec.specs.Gates.{RisesInDate, cutoff}
use Rattle.gate_spec.proofs.GateLemmas.{spec_at_one}
use Rattle.flag_text.specs.declared.vocabulary.Vocabulary.TheVariants.{Go}
use Rattle.flag_text.proofs.PassLemmas.{pair_refutes}
use Rattle.flag_text.proofs.TwoPassLemmas.{stop_refutes}
use Rattle.flag_text.specs.declared.pass.PairCause.TheVariants.{NoValue, NoBoolean}
use Rattle.flag_text.specs.Pieces.{FlagPiece, pieces, last_pieces}
use Rattle.gate_flags.specs.Flags.{IsAssignment, IsAccepted, IsFeatureText, HasFault, IsRefused, IsSecondPassFault, IsTextFault}
use Rattle.gate_flags.specs.declared.fault.GateCause.{GateCause}
use Rattle.gate_flags.specs.declared.fault.GateCause.TheVariants.{Missing, BadBool, Unknown, PreAlpha, Locked}
use Rattle.gate_flags.specs.declared.fault.GateFault.{GateFault}
use Rattle.gate_flags.specs.declared.fault.GateFault.TheVariants.{Memory, At}

pub fault_refutes : (p : FlagPiece) (c : GateCause) → HasFault p c → IsAssignment p → ⊥
fault_refutes p Missing h a = pair_refutes Go p NoValue h a
fault_refutes p BadBool h a = pair_refutes Go p NoBoolean h a
fault_refutes p Unknown h a = h
fault_refutes p PreAlpha h a = h
fault_refutes p (Locked d) h a = h

pub refusal_refutes : (entries : List GateEntry) (e : ℕ) (p : FlagPiece) (c : GateCause) → RisesInDate entries → IsRefused entries e p c → IsAccepted (cutoff entries e) p → ⊥
refusal_refutes entries e p Missing up h a = h
refusal_refutes entries e p BadBool up h a = h
refusal_refutes entries e p Unknown up h (inl all) = h.0 all
refusal_refutes entries e p PreAlpha up h (inl all) = h.0 all
refusal_refutes entries e p (Locked d) up h (inl all) = h.0 all
refusal_refutes entries e p Unknown up h (inr s) =
    elim h.1 [
      | inl never ↦ (let same : Never ≡ Found s.0 s.1 s.2 = spec_at_one entries p.name e Never (Found s.0 s.1 s.2) up never s.3 in cc)
      | inr gone ↦ (let same : Removed gone.0 ≡ Found s.0 s.1 s.2 = spec_at_one entries p.name e (Removed gone.0) (Found s.0 s.1 s.2) up gone.1 s.3 in cc)
    ]
refusal_refutes entries e p PreAlpha up h (inr s) =
    let same : ComesLater ≡ Found s.0 s.1 s.2 = spec_at_one entries p.name e ComesLater (Found s.0 s.1 s.2) up h.1 s.3 in cc
refusal_refutes entries e p (Locked d) up h (inr s) =
    let same : Found h.1.0 d true ≡ Found s.0 s.1 s.2 = spec_at_one entries p.name e (Found h.1.0 d true) (Found s.0 s.1 s.2) up h.1.1 s.3 in
    let default_is : s.1 ≡ d = cc in
    let locked_is : s.2 ≡ true = cc in
    h.2 (s.4 locked_is ∙ ap Some default_is)

-- a text with a fault isn't valid in the tables of the release
pub fault_refuses : (entries : List GateEntry) (e : ℕ) (text : List ℕ) (fault : GateFault) → RisesInDate entries → IsTextFault entries e text fault → (fault ≡ Memory → ⊥) → IsFeatureText (cutoff entries e) text → ⊥
fault_refuses entries e text Memory up h some valid = some refl
fault_refuses entries e text (At place cause) up h some valid =
    stop_refutes IsAssignment (IsAccepted (cutoff entries e)) HasFault (IsRefused entries e) (pieces text) place cause fault_refutes (λ p c. refusal_refutes entries e p c up) h valid.assignments valid.accepted

pub refusal_is : (entries : List GateEntry) (e : ℕ) (text : List ℕ) (last : List FlagPiece) (fault : GateFault) → All IsAssignment (pieces text) → last ≡ last_pieces (pieces text) → IsSecondPassFault entries e last fault → IsTextFault entries e text fault
refusal_is entries e text last Memory first same h = tt
refusal_is entries e text last (At place cause) first same h = inr (first, subst (λ ps. IsSecondPassFault entries e ps (At place cause)) same h)

pub refused_from : {T : Type 0} (entries : List GateEntry) (e : ℕ) (text : List ℕ) (r : Result T GateFault) → RisesInDate entries → IfErr r (IsTextFault entries e text) → IfErr r (λ fault. (fault ≡ Memory → ⊥) → IsFeatureText (cutoff entries e) text → ⊥)
refused_from entries e text (Ok v) up h = tt
refused_from entries e text (Err fault) up h = fault_refuses entries e text fault up h
