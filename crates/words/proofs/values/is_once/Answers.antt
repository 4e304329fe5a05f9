use Rattle.std.proofs.Common.{◌∙◌}
use Rattle.words.proofs.ValueLemmas.{once_is}
use Rattle.words.proofs.values.is_once.Goals as goal

pub returns : goal.returns
returns c = c.is_some.ensures ∙ once_is _ c.only_value.result c.only_value.ensures.some c.only_value.ensures.none
