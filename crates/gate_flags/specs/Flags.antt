-- Which flag texts a release accepts (component-base's --feature-gates), and the first fault of the others.
use Rattle.std.specs.Prelude.{◌≡◌, ◌≢◌, ◌⊎◌, ℕ, Bool, true, List, All, Some, codes}
use Rattle.gate_spec.specs.declared.entry.GateEntry.{GateEntry}
use Rattle.gate_spec.specs.declared.entry.Stage.{Stage}
use Rattle.gate_spec.specs.declared.entry.SpecAt.TheVariants.{Found, Removed, Never, PreAlpha as ComesLater}
use Rattle.gate_spec.specs.Gates.{cutoff, IsFoundIn, IsSpecAt}
use Rattle.flag_text.specs.Passes.{StopsAt, HasBoolean, LacksBoolean}
use Rattle.flag_text.specs.declared.pass.PairCause.TheVariants.{NoValue, NoBoolean}
use Rattle.flag_text.specs.Pieces.{FlagPiece, pieces, last_pieces}
use Rattle.flag_text.specs.Said.{said}
use Rattle.flag_text.specs.declared.vocabulary.Vocabulary.TheVariants.{Go}
use Rattle.gate_flags.specs.declared.fault.GateCause.{GateCause}
use Rattle.gate_flags.specs.declared.fault.GateCause.TheVariants.{Missing, BadBool, Unknown, PreAlpha, Locked}
use Rattle.gate_flags.specs.declared.fault.GateFault.{GateFault}
use Rattle.gate_flags.specs.declared.fault.GateFault.TheVariants.{Memory, At}

-- the piece has a `=` and a boolean word behind it
abbrev pub IsAssignment : FlagPiece → Type 0
IsAssignment = HasBoolean Go

-- a name that speaks of all gates of a stage
abbrev pub IsAllWord : List ℕ → Type 0
IsAllWord name = (name ≡ codes "AllAlpha") ⊎ (name ≡ codes "AllBeta")

-- the tables know the gate, and it isn't locked or is given its default
abbrev pub IsSettable : List GateEntry → FlagPiece → Type 0
IsSettable tables p =
    (stage : Stage) × (default : Bool) × (locked : Bool) ×
    IsFoundIn tables p.name stage default locked ×
    (locked ≡ true → said Go p ≡ Some default)

abbrev pub IsAccepted : List GateEntry → FlagPiece → Type 0
IsAccepted tables p = IsAllWord p.name ⊎ IsSettable tables p

-- the text is valid in the tables
pub record IsFeatureText (tables : List GateEntry) (text : List ℕ) : Type 0 where
  pub assignments : All IsAssignment (pieces text)
  pub accepted : All (IsAccepted tables) (last_pieces (pieces text))

-- the fault of a piece by itself
abbrev pub HasFault : FlagPiece → GateCause → Type 0
HasFault p Missing = LacksBoolean Go p NoValue
HasFault p BadBool = LacksBoolean Go p NoBoolean
HasFault p _ = ⊥

-- the fault of a last piece, by the whole history and the release
abbrev pub IsRefused : List GateEntry → ℕ → FlagPiece → GateCause → Type 0
IsRefused entries e p Unknown =
    ¬ IsAllWord p.name ×
    (IsSpecAt entries p.name e Never ⊎ ((value : Bool) × IsSpecAt entries p.name e (Removed value)))
IsRefused entries e p PreAlpha = ¬ IsAllWord p.name × IsSpecAt entries p.name e ComesLater
IsRefused entries e p (Locked default) =
    ¬ IsAllWord p.name × ((stage : Stage) × IsSpecAt entries p.name e (Found stage default true)) ×
    (said Go p ≢ Some default)
IsRefused entries e p _ = ⊥

-- the first pass: over all pieces, each by itself
abbrev pub IsFirstPassFault : List FlagPiece → GateFault → Type 0
IsFirstPassFault ps (At place cause) = StopsAt IsAssignment (λ p. HasFault p cause) ps place
IsFirstPassFault ps Memory = ⊥

-- the second pass: over the last piece of each name, by the history and the release
abbrev pub IsSecondPassFault : List GateEntry → ℕ → List FlagPiece → GateFault → Type 0
IsSecondPassFault entries e last (At place cause) =
    StopsAt (IsAccepted (cutoff entries e)) (λ p. IsRefused entries e p cause) last place
IsSecondPassFault entries e last Memory = ⊥

-- the fault of a text: the first of the first pass, or else the first of the second; want of memory is free
abbrev pub IsTextFault : List GateEntry → ℕ → List ℕ → GateFault → Type 0
IsTextFault entries e text (At place cause) =
    IsFirstPassFault (pieces text) (At place cause) ⊎
    (All IsAssignment (pieces text)
    × IsSecondPassFault entries e (last_pieces (pieces text)) (At place cause))
IsTextFault entries e text Memory = Unit {0}

-- the name of a cause, as it is printed
abbrev pub cause_name : GateCause → List ℕ
cause_name Missing = codes "Missing"
cause_name BadBool = codes "BadBool"
cause_name Unknown = codes "Unknown"
cause_name PreAlpha = codes "PreAlpha"
cause_name (Locked default) = codes "Locked"
