-- What is looked up by name while a text is read.
use Rattle.std.specs.Prelude.{◌≡◌, ℕ, Bool, List, Option, Some, None, IfSome, unwrap_or, codes}
use Rattle.std.specs.List.{filter_map}
use Rattle.std.specs.Option.{option_map_or}
use Rattle.std.specs.Ordering.{nat_cmp}
use Rattle.std.specs.Cmp.Lexicographic.{slice_cmp}
use Rattle.std.specs.BTreeMap.{BTreeMap, IsOrdered, get, values}
use Rattle.gate_spec.specs.declared.entry.GateEntry.{GateEntry}
use Rattle.gate_spec.specs.declared.entry.SpecAt.{SpecAt}
use Rattle.gate_spec.specs.declared.entry.SpecAt.TheVariants.{Found, PreAlpha, Removed, Never}
use Rattle.gate_spec.specs.declared.entry.Stage.{Stage}
use Rattle.gate_spec.specs.declared.entry.Stage.TheVariants.{Alpha, Beta, Ga, Deprecated}
use Rattle.gate_spec.specs.Gates.{IsSpecAt}
use Rattle.flag_text.specs.Said.{said_in}
use Rattle.gate_flags.specs.declared.known.Known.{Known}
use Rattle.gate_flags.specs.declared.values.GateRow.{GateRow}
use Rattle.gate_flags.specs.declared.values.RemovedGate.{RemovedGate}

-- what the map has of a gate, or that it never comes
abbrev pub spec_in : BTreeMap (List ℕ) Known → List ℕ → SpecAt
spec_in known name = option_map_or (λ k. k.spec) (get (slice_cmp nat_cmp) known name) Never

-- the map has what the release knows of each gate
pub record KnowsGates (entries : List GateEntry) (e : ℕ)
    (known : BTreeMap (List ℕ) Known) : Type 0 where
  pub order : IsOrdered (slice_cmp nat_cmp) known
  pub names : (name : List ℕ) → IfSome (get (slice_cmp nat_cmp) known name) (λ k. k.name.now ≡ name)
  pub specs : (name : List ℕ) → IsSpecAt entries name e (spec_in known name)

abbrev pub all_in : BTreeMap (List ℕ) (Option Bool) → Stage → Option Bool
all_in booleans Alpha = said_in booleans (codes "AllAlpha")
all_in booleans Beta = said_in booleans (codes "AllBeta")
all_in booleans Ga = None
all_in booleans Deprecated = None

abbrev pub value_in : BTreeMap (List ℕ) (Option Bool) → List ℕ → Stage → Bool → Bool
value_in booleans name stage default =
    unwrap_or (said_in booleans name) (unwrap_or (all_in booleans stage) default)

-- the row of a gate, where the release knows it
abbrev pub row_of : BTreeMap (List ℕ) (Option Bool) → List ℕ → SpecAt → Option GateRow
row_of booleans name (Found stage default locked) =
    Some (record {
      name = name;
      stage = stage;
      default = default;
      locked = locked;
      value = value_in booleans name stage default;
    })
row_of booleans name (Removed value) = None
row_of booleans name PreAlpha = None
row_of booleans name Never = None

-- what is kept of a gate, where it is removed
abbrev pub removed_of : List ℕ → SpecAt → Option RemovedGate
removed_of name (Removed value) = Some (record { name = name; value = value })
removed_of name (Found stage default locked) = None
removed_of name PreAlpha = None
removed_of name Never = None

abbrev pub rows_of : BTreeMap (List ℕ) (Option Bool) → BTreeMap (List ℕ) Known → List GateRow
rows_of booleans known = filter_map (λ k. row_of booleans k.name.now k.spec) (values known)

abbrev pub removed_gates_of : BTreeMap (List ℕ) Known → List RemovedGate
removed_gates_of known = filter_map (λ k. removed_of k.name.now k.spec) (values known)
