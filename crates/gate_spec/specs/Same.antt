-- Two lists of changes that say the same of each gate.
use Rattle.std.specs.Prelude.{◌↔◌, ℕ, Bool, List}
use Rattle.gate_spec.specs.Gates.{IsFoundIn, IsRemovedIn}
use Rattle.gate_spec.specs.declared.entry.GateEntry.{GateEntry}
use Rattle.gate_spec.specs.declared.entry.Stage.{Stage}

-- each gate is found in both tables with the same stage, default and lock, or removed in both with
-- the same value, or neither in both
pub record AreSameGates (xs ys : List GateEntry) : Type 0 where
  pub found : (name : List ℕ) (stage : Stage) (default locked : Bool) →
      IsFoundIn xs name stage default locked ↔ IsFoundIn ys name stage default locked
  pub removed : (name : List ℕ) (value : Bool)
      → IsRemovedIn xs name value ↔ IsRemovedIn ys name value
