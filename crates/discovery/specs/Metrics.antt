-- The page of the gates' values (in Prometheus' text exposition format).
use Rattle.std.specs.Prelude.{ℕ, List, ◌++◌, Bool, true, false, codes}
use Rattle.std.specs.List.{flat_map}
use Rattle.gate_spec.specs.Stages.{stage_word}
use Rattle.gate_flags.specs.declared.values.GateRow.{GateRow}
use Rattle.release_view.specs.Views.{Viewed}

abbrev pub value_digit : Bool → List ℕ
value_digit true = codes "1"
value_digit false = codes "0"

abbrev pub metrics_head : List ℕ
metrics_head =
    codes "# HELP kubernetes_feature_enabled Whether a feature gate is on at the emulated version.\n# TYPE kubernetes_feature_enabled gauge\n"

abbrev pub metric_line : GateRow → List ℕ
metric_line row =
    codes "kubernetes_feature_enabled{name=\""
    ++ (row.name ++ (codes "\",stage=\"" ++ (stage_word row.stage
    ++ (codes "\"} " ++ (value_digit row.value ++ codes "\n")))))

abbrev pub metric_lines : List GateRow → List ℕ
metric_lines rows = flat_map metric_line rows

-- the gates that the release knows, by name
abbrev pub metrics_page : Viewed → List ℕ
metrics_page view = metrics_head ++ metric_lines view.gates.rows
