-- The values that a flag text gives to gates.
use Rattle.std.specs.Prelude.{◌≡◌, ◌≢◌, ◌↔◌, ◌⊎◌, ℕ, Bool, List, map, Contains, Any, Option, None, unwrap_or, codes}
use Rattle.std.specs.Ordering.{nat_cmp}
use Rattle.std.specs.Cmp.Lexicographic.{slice_cmp}
use Rattle.std.specs.List.Sorted.{IsStrictlySortedBy}
use Rattle.gate_spec.specs.declared.entry.GateEntry.{GateEntry}
use Rattle.gate_spec.specs.declared.entry.Stage.{Stage}
use Rattle.gate_spec.specs.declared.entry.Stage.TheVariants.{Alpha, Beta, Ga, Deprecated}
use Rattle.gate_spec.specs.Gates.{IsFoundIn, IsRemovedIn}
use Rattle.flag_text.specs.Said.{last_said}
use Rattle.flag_text.specs.declared.vocabulary.Vocabulary.TheVariants.{Go}
use Rattle.flag_text.specs.Pieces.{FlagPiece}
use Rattle.gate_flags.specs.declared.values.GateRow.{GateRow}
use Rattle.gate_flags.specs.declared.values.RemovedGate.{RemovedGate}

-- what is given for all gates of the stage
abbrev pub all_given : List FlagPiece → Stage → Option Bool
all_given ps Alpha = last_said Go ps (codes "AllAlpha")
all_given ps Beta = last_said Go ps (codes "AllBeta")
all_given ps Ga = None
all_given ps Deprecated = None

-- the value of a gate: what is given for it, else what is given for its stage, else its default
abbrev pub gate_value : List FlagPiece → List ℕ → Stage → Bool → Bool
gate_value ps name stage default =
    unwrap_or (last_said Go ps name) (unwrap_or (all_given ps stage) default)

-- the row of a gate that the tables know
pub record IsRow (tables : List GateEntry) (ps : List FlagPiece) (row : GateRow) : Type 0 where
  pub found : IsFoundIn tables row.name row.stage row.default row.locked
  pub value : row.value ≡ gate_value ps row.name row.stage row.default

-- the values of gates: rows of those that the release knows, and what it keeps of those that are removed
pub record Gates : Type 0 where
  pub rows : List GateRow
  pub removed : List RemovedGate

-- both lists are in byte order of the names, and no name stands twice, in one of them or in both
pub record AreInOrder (gates : Gates) : Type 0 where
  pub rows : IsStrictlySortedBy (slice_cmp nat_cmp) (map (λ r. r.name) gates.rows)
  pub removed : IsStrictlySortedBy (slice_cmp nat_cmp) (map (λ r. r.name) gates.removed)
  pub apart : (row : GateRow) (gate : RemovedGate) → Contains gates.rows row →
      Contains gates.removed gate → row.name ≢ gate.name

-- each gate that the tables know has its row, and each removed gate its value
pub record AreGateValues (tables : List GateEntry) (ps : List FlagPiece)
    (gates : Gates) : Type 0 where
  pub order : AreInOrder gates
  pub rows : (row : GateRow) → Contains gates.rows row ↔ IsRow tables ps row
  pub removed : (gate : RemovedGate) →
      Contains gates.removed gate ↔ IsRemovedIn tables gate.name gate.value

-- the gate has this value
abbrev pub HasValue : Gates → List ℕ → Bool → Type 0
HasValue gates name value =
    Any (λ r. (r.name ≡ name) × (r.value ≡ value)) gates.rows ⊎
    Any (λ r. (r.name ≡ name) × (r.value ≡ value)) gates.removed
