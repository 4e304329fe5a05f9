-- What follows from the definitions of runtime configurations.
use Rattle.std.specs.Prelude.{◌≡◌, ◌≢◌, ◌↔◌, ◌⊎◌, ℕ, List, All}
use Rattle.flag_text.specs.Pieces.{pieces}
use Rattle.lifecycle.specs.Entry.{GroupVersionResource, subject, IsIntroduced}
use Rattle.lifecycle.specs.Tables.{cutoff}
use Rattle.lifecycle.specs.declared.entry.ApiEntry.{ApiEntry}
use Rattle.runtime_config.specs.Config.{IsRuntimeText, IsTextFault, AreServed}
use Rattle.runtime_config.specs.declared.fault.ConfigCause.{ConfigCause}
use Rattle.runtime_config.specs.declared.fault.ConfigCause.TheVariants.{BadPair, BadBool, UnknownApi, AfterEmulated, RemovedApi}
use Rattle.runtime_config.specs.declared.fault.ConfigFault.{ConfigFault}
use Rattle.runtime_config.specs.declared.fault.ConfigFault.TheVariants.{Memory, At, OnlyAllFalse}

-- both tables accept the text or neither does, and by both it leaves the same versions served
pub record IsTakenAlike (tables others : List ApiEntry) (text : List ℕ) : Type 0 where
  pub accepted : IsRuntimeText tables text ↔ IsRuntimeText others text
  pub served : (names : List GroupVersionResource) →
      AreServed tables (pieces text) names ↔ AreServed others (pieces text) names

-- two lists of what a text leaves served are one
abbrev pub HasOneServedSet : List ApiEntry → ℕ → List ℕ → Type 0
HasOneServedSet entries e text =
    (a b : List GroupVersionResource) →
    AreServed (cutoff entries e) (pieces text) a →
    AreServed (cutoff entries e) (pieces text) b → a ≡ b

-- two faults of the text, neither of them want of memory, are one, in place and cause
abbrev pub HasOneFault : List ApiEntry → ℕ → List ℕ → Type 0
HasOneFault entries e text =
    (f g : ConfigFault) → f ≢ Memory → g ≢ Memory →
    IsTextFault entries e text f → IsTextFault entries e text g → f ≡ g

-- a valid text has no fault, but for want of memory
abbrev pub IsFaultlessWhereValid : List ApiEntry → ℕ → List ℕ → Type 0
IsFaultlessWhereValid entries e text =
    IsRuntimeText (cutoff entries e) text →
    (f : ConfigFault) → IsTextFault entries e text f → f ≡ Memory

-- a text is valid or has a fault that isn't want of memory
abbrev pub IsValidOrFaulty : List ApiEntry → ℕ → List ℕ → Type 0
IsValidOrFaulty entries e text =
    IsRuntimeText (cutoff entries e) text
    ⊎ ((f : ConfigFault) × (f ≢ Memory) × IsTextFault entries e text f)

-- a key that names only later versions, seen by a history that doesn't name them
abbrev pub unforeseen : ConfigCause → ConfigCause
unforeseen BadPair = BadPair
unforeseen BadBool = BadBool
unforeseen UnknownApi = UnknownApi
unforeseen AfterEmulated = UnknownApi
unforeseen RemovedApi = RemovedApi

abbrev pub unforeseen_fault : ConfigFault → ConfigFault
unforeseen_fault (At place cause) = At place (unforeseen cause)
unforeseen_fault OnlyAllFalse = OnlyAllFalse
unforeseen_fault Memory = Memory

-- the fault by the cut history is that by the whole, or the same with `AfterEmulated` as `UnknownApi`
abbrev pub IsSeenAs : ConfigFault → ConfigFault → Type 0
IsSeenAs whole cut = (cut ≡ whole) ⊎ (cut ≡ unforeseen_fault whole)

-- by the cut history the text has the faults that it has by the whole
pub record HasFaultsOfCut (entries cut : List ApiEntry) (e : ℕ) (text : List ℕ) : Type 0 where
  pub kept : (f : ConfigFault) → IsTextFault entries e text f →
      (g : ConfigFault) × IsSeenAs f g × IsTextFault cut e text g
  pub from : (g : ConfigFault) → IsTextFault cut e text g →
      (f : ConfigFault) × IsSeenAs f g × IsTextFault entries e text f

-- each change of a version is dated at or after an introduction of it
abbrev pub AreIntroduced : List ApiEntry → Type 0
AreIntroduced entries = All (λ x. IsIntroduced entries (subject x) x.since) entries

-- the same where the history is cut at the release, so that by the cut one no key names only later versions
abbrev pub HasUnforeseenFaults : List ApiEntry → List ApiEntry → ℕ → List ℕ → Type 0
HasUnforeseenFaults entries cut e text =
    (g : ConfigFault) → IsTextFault cut e text g ↔
    ((f : ConfigFault) × IsTextFault entries e text f × (g ≡ unforeseen_fault f))
