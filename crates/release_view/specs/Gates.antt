-- The gates that a view may hold.
use Rattle.std.specs.Prelude.{◌≡◌, ◌↔◌, ℕ, List, Bool, true, All, Any, Contains}
use Rattle.gate_spec.specs.Gates.{IsFoundIn, IsRemovedIn}
use Rattle.gate_spec.specs.declared.entry.GateEntry.{GateEntry}
use Rattle.gate_spec.specs.declared.entry.Stage.{Stage}
use Rattle.gate_flags.specs.Values.{Gates}
use Rattle.gate_flags.specs.declared.values.GateRow.{GateRow}
use Rattle.gate_flags.specs.declared.values.RemovedGate.{RemovedGate}

pub record IsRowOf (name : List ℕ) (stage : Stage)
    (default locked : Bool) (row : GateRow) : Type 0 where
  pub of_name : row.name ≡ name
  pub of_stage : row.stage ≡ stage
  pub of_default : row.default ≡ default
  pub of_locked : row.locked ≡ locked

-- the gates that the tables have, each with a value: the default of a locked one, and for a removed one the value that
-- it keeps
pub record AreGatesOf (tables : List GateEntry) (gates : Gates) : Type 0 where
  pub found : (name : List ℕ) (stage : Stage) (default locked : Bool) →
      Any (IsRowOf name stage default locked) gates.rows
      ↔ IsFoundIn tables name stage default locked
  pub locked : All (λ row. row.locked ≡ true → row.value ≡ row.default) gates.rows
  pub removed : (gate : RemovedGate) →
      Contains gates.removed gate ↔ IsRemovedIn tables gate.name gate.value
