-- A feature gate text has one answer: one fault at most, and none where it is valid.
use Rattle.std.proofs.Common.{◌≡◌, inl, inr, ℕ, true, List, refl, sym, ◌∙◌, ap}
use Rattle.gate_spec.specs.declared.entry.GateEntry.{GateEntry}
use Rattle.gate_spec.specs.declared.entry.SpecAt.{SpecAt}
use Rattle.gate_spec.specs.declared.entry.SpecAt.TheVariants.{Found, Removed, Never, PreAlpha as ComesLater}
use Rattle.gate_spec.specs.Gates.{RisesInDate, cutoff, IsSpecAt}
use Rattle.gate_spec.proofs.GateLemmas.{spec_at_one}
use Rattle.flag_text.specs.Pieces.{FlagPiece, pieces}
use Rattle.gate_flags.specs.Flags.{IsAssignment, IsAccepted, HasFault, IsRefused}
use Rattle.gate_flags.specs.Laws.{HasOneFault, IsFaultlessWhereValid}
use Rattle.gate_flags.specs.declared.fault.GateCause.{GateCause}
use Rattle.gate_flags.specs.declared.fault.GateCause.TheVariants.{Missing, BadBool, Unknown, PreAlpha, Locked}
use Rattle.gate_flags.specs.declared.fault.GateFault.TheVariants.{Memory, At}
use Rattle.flag_text.proofs.PassLemmas.{one_pair_cause}
use Rattle.flag_text.proofs.TwoPassLemmas.{one_stop}
use Rattle.flag_text.specs.declared.vocabulary.Vocabulary.TheVariants.{Go}
use Rattle.flag_text.specs.declared.pass.PairCause.TheVariants.{NoValue, NoBoolean}
use Rattle.gate_flags.proofs.PassLemmas.{fault_refutes, refusal_refutes, fault_refuses}

one_cause : (p : FlagPiece) (c d : GateCause) → HasFault p c → HasFault p d → c ≡ d
one_cause p Missing Missing h k = refl
one_cause p BadBool BadBool h k = refl
one_cause p Missing BadBool h k = absurd (let e : NoValue ≡ NoBoolean = one_pair_cause Go p NoValue NoBoolean h k in cc)
one_cause p BadBool Missing h k = absurd (let e : NoBoolean ≡ NoValue = one_pair_cause Go p NoBoolean NoValue h k in cc)
one_cause p Unknown d h k = absurd h
one_cause p PreAlpha d h k = absurd h
one_cause p (Locked b) d h k = absurd h
one_cause p Missing Unknown h k = absurd k
one_cause p Missing PreAlpha h k = absurd k
one_cause p Missing (Locked b) h k = absurd k
one_cause p BadBool Unknown h k = absurd k
one_cause p BadBool PreAlpha h k = absurd k
one_cause p BadBool (Locked b) h k = absurd k

abbrev refusal_by : SpecAt → GateCause
refusal_by (Found stage default locked) = Locked default
refusal_by (Removed value) = Unknown
refusal_by ComesLater = PreAlpha
refusal_by Never = Unknown

refusal_cause : (entries : List GateEntry) (e : ℕ) (p : FlagPiece) (c : GateCause) → IsRefused entries e p c → (s : SpecAt) × IsSpecAt entries p.name e s × (c ≡ refusal_by s)
refusal_cause entries e p Missing h = absurd h
refusal_cause entries e p BadBool h = absurd h
refusal_cause entries e p Unknown h = elim h.1 [ inl never ↦ (Never, never, refl) | inr gone ↦ (Removed gone.0, gone.1, refl) ]
refusal_cause entries e p PreAlpha h = (ComesLater, h.1, refl)
refusal_cause entries e p (Locked d) h = (Found h.1.0 d true, h.1.1, refl)

one_refusal : (entries : List GateEntry) (e : ℕ) → RisesInDate entries → (p : FlagPiece) (c d : GateCause) → IsRefused entries e p c → IsRefused entries e p d → c ≡ d
one_refusal entries e up p c d h k =
    let s = refusal_cause entries e p c h in
    let t = refusal_cause entries e p d k in
    s.2 ∙ ap refusal_by (spec_at_one entries p.name e s.0 t.0 up s.1 t.1) ∙ sym t.2

pub one_fault : (entries : List GateEntry) (e : ℕ) (text : List ℕ) → RisesInDate entries → HasOneFault entries e text
one_fault entries e text up Memory g some other h k = absurd (some refl)
one_fault entries e text up (At m c) Memory some other h k = absurd (other refl)
one_fault entries e text up (At m c) (At n d) some other h k =
    one_stop At IsAssignment (IsAccepted (cutoff entries e)) HasFault (IsRefused entries e) (pieces text) m n c d fault_refutes (λ p c. refusal_refutes entries e p c up) one_cause (one_refusal entries e up) h k

pub either : (entries : List GateEntry) (e : ℕ) (text : List ℕ) → RisesInDate entries → IsFaultlessWhereValid entries e text
either entries e text up valid Memory h = refl
either entries e text up valid (At place cause) h = absurd (fault_refuses entries e text (At place cause) up h (λ same. cc) valid)
