-- The texts that words give.
use Rattle.served_history.specs.Releases.{FlagTexts}
use Rattle.words.specs.declared.command.FlagTexts.{FlagTexts as GivenTexts}

-- those that choose what is served
abbrev pub texts_given : GivenTexts → FlagTexts
texts_given t = record {
  emulated = t.emulated;
  least = t.min_compatibility;
  features = t.features;
  runtime = t.runtime;
}
