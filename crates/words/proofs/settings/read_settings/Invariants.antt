use Rattle.words.proofs.SettingLemmas.{Stands}
use Rattle.words.proofs.settings.read_settings.Given as goal

-- the settings so far are those of the words so far
abbrev pub invariant-loop-word : goal.invariant-loop-word
invariant-loop-word l = Stands l.words l.settings.items l.waiting l.word-index
