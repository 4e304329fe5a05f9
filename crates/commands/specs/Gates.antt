-- What the command `gates` is to answer.
use Rattle.std.specs.Prelude.{ℕ, ◌≡◌, ◌⊎◌, Bool, true, false, List, [], ◌++◌, codes, unwrap_or}
use Rattle.std.specs.declared.option.Option.{Option}
use Rattle.answer_lines.specs.Options.{gate_line as gate_fault_line}
use Rattle.std.specs.List.{flat_map}
use Rattle.flag_text.specs.Pieces.{pieces}
use Rattle.gate_flags.specs.Flags.{IsFeatureText, IsTextFault}
use Rattle.gate_flags.specs.Values.{Gates, AreGateValues}
use Rattle.gate_flags.specs.declared.fault.GateCause.{GateCause}
use Rattle.gate_flags.specs.declared.fault.GateFault.TheVariants.{At}
use Rattle.gate_flags.specs.declared.values.GateRow.{GateRow}
use Rattle.gate_spec.specs.Gates.{cutoff}
use Rattle.gate_spec.specs.declared.entry.Stage.{Stage}
use Rattle.gate_spec.specs.declared.entry.Stage.TheVariants as stage
use Rattle.schemas.specs.Dated.{Dated}
use Rattle.commands.specs.Releases.{AtRelease}
use Rattle.commands.specs.declared.status.Status.{Status}
use Rattle.commands.specs.declared.status.Status.TheVariants as status

-- a stage as `gates` names it
abbrev pub stage_title : Stage → List ℕ
stage_title stage.Alpha = codes "ALPHA"
stage_title stage.Beta = codes "BETA"
stage_title stage.Ga = codes "GA"
stage_title stage.Deprecated = codes "DEPRECATED"

abbrev pub bool_word : Bool → List ℕ
bool_word true = codes "true"
bool_word false = codes "false"

-- a gate that the release knows
abbrev pub gate_line : GateRow → List ℕ
gate_line row =
    row.name ++ (codes " " ++ (stage_title row.stage
    ++ (codes " default=" ++ (bool_word row.default ++ (codes " locked=" ++ (bool_word row.locked
    ++ (codes " value=" ++ (bool_word row.value ++ codes "\n"))))))))

-- each gate in a line
abbrev pub gate_lines : List GateRow → List ℕ
gate_lines rows = flat_map gate_line rows

-- the release refuses the feature gate text, and this line says why
abbrev pub IsGateRefusal : Dated → ℕ → List ℕ → List ℕ → Type 0
IsGateRefusal h e features text =
    (place : ℕ) × (cause : GateCause) × IsTextFault h.gates e features (At place cause)
    × (text ≡ gate_fault_line place cause)

-- the text has a line for each gate of the release's tables, set by a feature gate text that it accepts
abbrev pub AreGateLines : Dated → ℕ → List ℕ → List ℕ → Type 0
AreGateLines h e features text =
    (values : Gates) × IsFeatureText (cutoff h.gates e) features
    × AreGateValues (cutoff h.gates e) (pieces features) values × (text ≡ gate_lines values.rows)

-- what `gates` is to answer for a release: its gates, or why it refuses the text
abbrev pub IsGateListingAt : Dated → List ℕ → ℕ → Status → List ℕ → Type 0
IsGateListingAt h features e s text =
    ((s ≡ status.Ok) × AreGateLines h e features text)
    ⊎ ((s ≡ status.Flags) × IsGateRefusal h e features text)

-- what `gates` is to answer on an accepted history, where no text stands for the empty one
abbrev pub IsGateListing : Option (List ℕ) → Option (List ℕ) → Dated → Status → List ℕ → Type 0
IsGateListing emulated features h =
    AtRelease emulated h (IsGateListingAt h (unwrap_or features []))
