-- The words by which a history document names the stages of feature gates.
use Rattle.std.specs.Prelude.{ℕ, List, [], codes}
use Rattle.gate_spec.specs.declared.entry.Stage.{Stage}
use Rattle.gate_spec.specs.declared.entry.Stage.TheVariants.{Alpha, Beta, Ga, Deprecated}

-- general availability has the empty word
abbrev pub stage_word : Stage → List ℕ
stage_word Alpha = codes "ALPHA"
stage_word Beta = codes "BETA"
stage_word Ga = []
stage_word Deprecated = codes "DEPRECATED"
