use Rattle.words.specs.Settings.{settings_in}
use Rattle.words.proofs.AssignLemmas.{value_got}
use Rattle.words.proofs.values.assigned_value.Goals as goal

pub returns-in-Some-clause-some : goal.returns-in-Some-clause-some
returns-in-Some-clause-some c = value_got (settings_in c.args.settings.now) c.args.matches.now c.args.name.now _ _ c.requires c.in-Some.ensures.some c.get_str.ensures
