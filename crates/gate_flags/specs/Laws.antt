-- What follows from the definitions of flag texts.
use Rattle.std.specs.Prelude.{◌≡◌, ◌≢◌, ◌↔◌, ◌⊎◌, ℕ, List}
use Rattle.gate_spec.specs.declared.entry.GateEntry.{GateEntry}
use Rattle.gate_spec.specs.Gates.{cutoff}
use Rattle.flag_text.specs.Pieces.{pieces}
use Rattle.gate_flags.specs.Flags.{IsFeatureText, IsTextFault}
use Rattle.gate_flags.specs.Values.{Gates, AreGateValues}
use Rattle.gate_flags.specs.declared.fault.GateCause.{GateCause}
use Rattle.gate_flags.specs.declared.fault.GateCause.TheVariants.{Missing, BadBool, Unknown, PreAlpha, Locked}
use Rattle.gate_flags.specs.declared.fault.GateFault.{GateFault}
use Rattle.gate_flags.specs.declared.fault.GateFault.TheVariants.{Memory, At}

-- both tables accept the text or neither does, and they give it the same values
pub record IsTakenAlike (tables others : List GateEntry) (text : List ℕ) : Type 0 where
  pub accepted : IsFeatureText tables text ↔ IsFeatureText others text
  pub values : (gates : Gates) →
      AreGateValues tables (pieces text) gates ↔ AreGateValues others (pieces text) gates

-- two sets of values of the text are one
abbrev pub HasOneSetOfValues : List GateEntry → List ℕ → Type 0
HasOneSetOfValues tables text =
    (a b : Gates) →
    AreGateValues tables (pieces text) a → AreGateValues tables (pieces text) b → a ≡ b

-- two faults of the text, neither of them want of memory, are one, in place and cause
abbrev pub HasOneFault : List GateEntry → ℕ → List ℕ → Type 0
HasOneFault entries e text =
    (f g : GateFault) → f ≢ Memory → g ≢ Memory →
    IsTextFault entries e text f → IsTextFault entries e text g → f ≡ g

-- a valid text has no fault, but for want of memory
abbrev pub IsFaultlessWhereValid : List GateEntry → ℕ → List ℕ → Type 0
IsFaultlessWhereValid entries e text =
    IsFeatureText (cutoff entries e) text →
    (f : GateFault) → IsTextFault entries e text f → f ≡ Memory

-- a text is valid or has a fault that isn't want of memory
abbrev pub IsValidOrFaulty : List GateEntry → ℕ → List ℕ → Type 0
IsValidOrFaulty entries e text =
    IsFeatureText (cutoff entries e) text
    ⊎ ((f : GateFault) × (f ≢ Memory) × IsTextFault entries e text f)

-- a gate that comes only later, seen by a history that doesn't name it
abbrev pub unforeseen : GateCause → GateCause
unforeseen Missing = Missing
unforeseen BadBool = BadBool
unforeseen Unknown = Unknown
unforeseen PreAlpha = Unknown
unforeseen (Locked default) = Locked default

abbrev pub unforeseen_fault : GateFault → GateFault
unforeseen_fault (At place cause) = At place (unforeseen cause)
unforeseen_fault Memory = Memory

-- the fault by the cut history is that by the whole, or the same with `PreAlpha` as `Unknown`
abbrev pub IsSeenAs : GateFault → GateFault → Type 0
IsSeenAs whole cut = (cut ≡ whole) ⊎ (cut ≡ unforeseen_fault whole)

-- by the cut history the text has the faults that it has by the whole
pub record HasFaultsOfCut (entries cut : List GateEntry) (e : ℕ) (text : List ℕ) : Type 0 where
  pub kept : (f : GateFault) → IsTextFault entries e text f →
      (g : GateFault) × IsSeenAs f g × IsTextFault cut e text g
  pub from : (g : GateFault) → IsTextFault cut e text g →
      (f : GateFault) × IsSeenAs f g × IsTextFault entries e text f

-- the same where the history is cut at the release, so that by the cut one no gate comes only later
abbrev pub HasUnforeseenFaults : List GateEntry → List GateEntry → ℕ → List ℕ → Type 0
HasUnforeseenFaults entries cut e text =
    (g : GateFault) → IsTextFault cut e text g ↔
    ((f : GateFault) × IsTextFault entries e text f × (g ≡ unforeseen_fault f))
