use Rattle.std.proofs.Common.{◌≡◌, take}
use Rattle.std.specs.Option.{option_to_list}
use Rattle.words.specs.Settings.{settings_in}
use Rattle.words.specs.Table.{text_of, values_of}
use Rattle.words.proofs.values.only_value.Given as goal

-- the value so far is what the settings so far give
abbrev pub invariant-loop-setting : goal.invariant-loop-setting
invariant-loop-setting l = values_of l.name (settings_in (take l.setting-index l.settings)) ≡ option_to_list (text_of l.found)
