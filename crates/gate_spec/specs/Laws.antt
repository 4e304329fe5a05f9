-- What follows from the definitions of gates.
use Rattle.std.specs.Prelude.{◌≡◌, ◌↔◌, ◌⊎◌, ℕ, Bool, List}
use Rattle.gate_spec.specs.Gates.{HasGate, IsSpecAt}
use Rattle.gate_spec.specs.declared.entry.GateEntry.{GateEntry}
use Rattle.gate_spec.specs.declared.entry.Stage.{Stage}
use Rattle.gate_spec.specs.declared.entry.SpecAt.{SpecAt}
use Rattle.gate_spec.specs.declared.entry.SpecAt.TheVariants.{Found, PreAlpha, Removed, Never}

-- the cut history knows of the gate at the release what the whole one knows, but that one which the
-- cut drops never comes
pub record IsKnownAlike (entries cut : List GateEntry) (name : List ℕ) (e : ℕ) : Type 0 where
  pub found : (stage : Stage) (default locked : Bool) →
      IsSpecAt cut name e (Found stage default locked)
      ↔ IsSpecAt entries name e (Found stage default locked)
  pub removed : (value : Bool)
      → IsSpecAt cut name e (Removed value) ↔ IsSpecAt entries name e (Removed value)
  pub later : IsSpecAt cut name e PreAlpha ↔ (IsSpecAt entries name e PreAlpha × HasGate cut name)
  pub never : IsSpecAt cut name e Never ↔
      ((IsSpecAt entries name e PreAlpha ⊎ IsSpecAt entries name e Never) × ¬ HasGate cut name)

-- a release knows exactly one thing of a gate
abbrev pub HasOneSpec : List GateEntry → List ℕ → ℕ → Type 0
HasOneSpec entries name e =
    (a : SpecAt) × IsSpecAt entries name e a × ((b : SpecAt) → IsSpecAt entries name e b → b ≡ a)
