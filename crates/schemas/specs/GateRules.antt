-- The rules on feature gates, one entry at a time (after the Kubernetes deprecation policy).
use Rattle.std.specs.Prelude.{ℕ, ◌≡◌, ◌+◌, ◌<◌, ◌≤◌, List, Bool, true, false, Option, IfSome, IsSomeAnd}
use Rattle.std.specs.Str.{bytes_eq}
use Rattle.gate_spec.specs.declared.entry.Stage.TheVariants.{Alpha, Beta, Ga, Deprecated}
use Rattle.gate_spec.specs.declared.entry.GateChange.{GateChange}
use Rattle.gate_spec.specs.declared.entry.GateChange.TheVariants.{Spec, Gone}
use Rattle.gate_spec.specs.declared.entry.GateEntry.{GateEntry}
use Rattle.schemas.specs.Places.{last_passing}

-- y is an entry of the gate of x
abbrev pub is_of_gate : GateEntry → GateEntry → Bool
is_of_gate x y = bytes_eq x.name y.name

-- the previous entry of the gate of x
abbrev pub previous_of_gate : List GateEntry → GateEntry → Option GateEntry
previous_of_gate earlier x = last_passing (is_of_gate x) earlier

abbrev pub IsGone : GateChange → Type 0
IsGone Gone = Unit {0}
IsGone (Spec stage default locked) = ⊥

abbrev pub IsLockedSpec : GateChange → Type 0
IsLockedSpec (Spec stage default locked) = locked ≡ true
IsLockedSpec Gone = ⊥

-- the date is behind that of the gate's previous entry, which isn't a removal
abbrev pub RisesFrom : Option GateEntry → ℕ → Type 0
RisesFrom previous since = IfSome previous (λ y. (y.since < since) × ¬ IsGone y.change)

-- HR3: the entry is dated after the previous entry of its gate, and doesn't follow a removal
abbrev pub RisesInGate : List GateEntry → GateEntry → Type 0
RisesInGate earlier x = RisesFrom (previous_of_gate earlier x) x.since

-- what a stage asks of a spec: alpha is off and not locked, beta isn't locked, general availability
-- is on
abbrev pub IsFitSpec : GateChange → Type 0
IsFitSpec (Spec Alpha default locked) = (default ≡ false) × (locked ≡ false)
IsFitSpec (Spec Beta default locked) = locked ≡ false
IsFitSpec (Spec Ga default locked) = default ≡ true
IsFitSpec (Spec Deprecated default locked) = Unit {0}
IsFitSpec Gone = Unit {0}

-- HR4: the entry's spec fits its stage
abbrev pub FitsStage : List GateEntry → GateEntry → Type 0
FitsStage earlier x = IsFitSpec x.change

-- a removal comes at least three releases after a locked spec, which is the gate's previous entry
abbrev pub IsRipe : Option GateEntry → ℕ → GateChange → Type 0
IsRipe previous since (Spec stage default locked) = Unit {0}
IsRipe previous since Gone = IsSomeAnd previous (λ y. IsLockedSpec y.change × (y.since + 3 ≤ since))

-- HR5: a removal follows a locked spec, three releases later or more
abbrev pub FollowsLockedSpec : List GateEntry → GateEntry → Type 0
FollowsLockedSpec earlier x = IsRipe (previous_of_gate earlier x) x.since x.change
