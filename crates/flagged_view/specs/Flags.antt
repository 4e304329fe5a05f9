-- Why flag texts make no view of a release.
use Rattle.std.specs.Prelude.{◌≢◌, ℕ, List}
use Rattle.gate_flags.specs.Flags.{IsFeatureText, IsTextFault as IsFeatureFault}
use Rattle.gate_flags.specs.declared.fault.GateFault.TheVariants.{Memory as NoGateMemory}
use Rattle.gate_spec.specs.Gates.{cutoff as gate_cutoff}
use Rattle.lifecycle.specs.Tables.{cutoff}
use Rattle.runtime_config.specs.Config.{IsRuntimeText, IsTextFault as IsConfigFault}
use Rattle.runtime_config.specs.declared.fault.ConfigFault.TheVariants.{Memory as NoConfigMemory}
use Rattle.schemas.specs.Dated.{Dated}
use Rattle.flagged_view.specs.declared.fault.FlagsFault.{FlagsFault}
use Rattle.flagged_view.specs.declared.fault.FlagsFault.TheVariants.{Features, Runtime}

-- The feature gate text has this fault; or it has none, and the runtime configuration has this one.
abbrev pub IsFlagsFault : Dated → ℕ → List ℕ → List ℕ → FlagsFault → Type 0
IsFlagsFault h e features config (Features fault) = IsFeatureFault h.gates e features fault
IsFlagsFault h e features config (Runtime fault) =
    IsFeatureText (gate_cutoff h.gates e) features × IsConfigFault h.apis e config fault

-- the text that the fault speaks of is one that the release refuses, unless memory ran out
abbrev pub IsRefusedText : Dated → ℕ → List ℕ → List ℕ → FlagsFault → Type 0
IsRefusedText h e features config (Features fault) =
    fault ≢ NoGateMemory → ¬ IsFeatureText (gate_cutoff h.gates e) features
IsRefusedText h e features config (Runtime fault) =
    fault ≢ NoConfigMemory → ¬ IsRuntimeText (cutoff h.apis e) config
