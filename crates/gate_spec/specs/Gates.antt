-- What a list of dated changes says of a feature gate.
use Rattle.std.specs.Prelude.{◌≡◌, ℕ, ◌≤◌, ◌<◌, ◌⊎◌, nat_le, nat_lt, if◌then◌else◌, Bool, true, false, List, filter, All, Any, Contains}
use Rattle.std.specs.List.{AllPairs}
use Rattle.gate_spec.specs.declared.entry.GateEntry.{GateEntry}
use Rattle.gate_spec.specs.declared.entry.GateChange.{GateChange}
use Rattle.gate_spec.specs.declared.entry.GateChange.TheVariants.{Spec, Gone}
use Rattle.gate_spec.specs.declared.entry.Stage.{Stage}
use Rattle.gate_spec.specs.declared.entry.SpecAt.{SpecAt}
use Rattle.gate_spec.specs.declared.entry.SpecAt.TheVariants.{Found, PreAlpha, Removed, Never}

-- of two entries of one gate the later in the list is dated later
abbrev pub RisesInDate : List GateEntry → Type 0
RisesInDate entries = AllPairs (λ x y. x.name ≡ y.name → x.since < y.since) entries

-- the entries dated at or before the release, in order: all that its tables are made of
abbrev pub cutoff : List GateEntry → ℕ → List GateEntry
cutoff entries e = filter (λ x. nat_le x.since e) entries

-- some entry is of this gate
abbrev pub HasGate : List GateEntry → List ℕ → Type 0
HasGate entries name = Any (λ x. x.name ≡ name) entries

-- the newest entry of this gate: no entry of it is dated later
pub record IsNewest (entries : List GateEntry) (name : List ℕ) (x : GateEntry) : Type 0 where
  pub among : Contains entries x
  pub named : x.name ≡ name
  pub newest : All (λ y. y.name ≡ name → y.since ≤ x.since) entries

-- the gate's newest entry is this spec
abbrev pub IsFoundIn : List GateEntry → List ℕ → Stage → Bool → Bool → Type 0
IsFoundIn entries name stage default locked =
    (x : GateEntry) × IsNewest entries name x × (x.change ≡ Spec stage default locked)

abbrev pub is_spec : GateChange → Bool
is_spec (Spec stage default locked) = true
is_spec Gone = false

-- the entries that are specs
abbrev pub specs_of : List GateEntry → List GateEntry
specs_of entries = filter (λ x. is_spec x.change) entries

-- the default of the gate's newest spec, or false where it has no spec
abbrev pub IsLastDefault : List GateEntry → List ℕ → Bool → Type 0
IsLastDefault entries name default =
    ((y : GateEntry) × IsNewest (specs_of entries) name y ×
    ((stage : Stage) × (locked : Bool) × (y.change ≡ Spec stage default locked)))
    ⊎ (¬ HasGate (specs_of entries) name × (default ≡ false))

-- the gate's newest entry is its removal, after which it stays at this value
abbrev pub IsRemovedIn : List GateEntry → List ℕ → Bool → Type 0
IsRemovedIn entries name value =
    (x : GateEntry) × IsNewest entries name x × (x.change ≡ Gone) × IsLastDefault entries name value

-- what a release knows of the gate: what the newest entry of its tables says; where they have none,
-- the whole history tells a gate that comes later from one that never comes
abbrev pub IsSpecAt : List GateEntry → List ℕ → ℕ → SpecAt → Type 0
IsSpecAt entries name e (Found stage default locked) =
    IsFoundIn (cutoff entries e) name stage default locked
IsSpecAt entries name e (Removed value) = IsRemovedIn (cutoff entries e) name value
IsSpecAt entries name e PreAlpha = ¬ HasGate (cutoff entries e) name × HasGate entries name
IsSpecAt entries name e Never = ¬ HasGate entries name

-- what a removal keeps: the default of the newest spec so far
abbrev pub last_default : SpecAt → Bool
last_default (Found stage default locked) = default
last_default (Removed value) = value
last_default PreAlpha = false
last_default Never = false

-- what is known of a gate after one more change of it, known to the release
abbrev pub after_change : SpecAt → GateChange → SpecAt
after_change s (Spec stage default locked) = Found stage default locked
after_change s Gone = Removed (last_default s)

-- the same after one that comes later
abbrev pub after_later : SpecAt → SpecAt
after_later (Found stage default locked) = Found stage default locked
after_later (Removed value) = Removed value
after_later PreAlpha = PreAlpha
after_later Never = PreAlpha

-- what the release e knows of a gate after one more entry of it
abbrev pub spec_after : SpecAt → GateEntry → ℕ → SpecAt
spec_after s x e = (if nat_lt e x.since then after_later s else after_change s x.change)
