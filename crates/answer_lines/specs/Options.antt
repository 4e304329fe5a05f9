-- The lines that tell why the text of an option is refused.
use Rattle.std.specs.Prelude.{ℕ, List, ◌++◌, codes, decimal}
use Rattle.gate_flags.specs.Flags.{cause_name as gate_cause_name}
use Rattle.gate_flags.specs.declared.fault.GateCause.{GateCause}
use Rattle.minor_version.specs.Release.{release_text}
use Rattle.release_choice.specs.declared.fault.VersionFault.{VersionFault}
use Rattle.release_choice.specs.declared.fault.VersionFault.TheVariants.{NotAVersion, OutOfRange}
use Rattle.runtime_config.specs.Config.{cause_name}
use Rattle.runtime_config.specs.declared.fault.ConfigFault.{ConfigFault}
use Rattle.runtime_config.specs.declared.fault.ConfigFault.TheVariants as fault

-- why the text of a release option is refused, which names one from low to high
abbrev pub version_line : List ℕ → ℕ → ℕ → VersionFault → List ℕ
version_line option low high NotAVersion = option ++ codes ": not a version\n"
version_line option low high OutOfRange =
    option ++ (codes ": out of range "
    ++ (release_text low ++ (codes " to " ++ (release_text high ++ codes "\n"))))

-- why a piece of a feature gate text is refused
abbrev pub gate_line : ℕ → GateCause → List ℕ
gate_line place cause =
    codes "feature-gates: piece "
    ++ (decimal place ++ (codes ": " ++ (gate_cause_name cause ++ codes "\n")))

-- why a runtime configuration is refused
abbrev pub config_line : ConfigFault → List ℕ
config_line fault.Memory = codes ""
config_line (fault.At place cause) =
    codes "runtime-config: piece "
    ++ (decimal place ++ (codes ": " ++ (cause_name cause ++ codes "\n")))
config_line fault.OnlyAllFalse = codes "runtime-config: only api/all=false\n"
