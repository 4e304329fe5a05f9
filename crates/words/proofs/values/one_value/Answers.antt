use Rattle.std.proofs.Common.{Some}
use Rattle.words.proofs.values.one_value.Goals as goal

pub returns-in_default-clause-none : goal.returns-in_default-clause-none
returns-in_default-clause-none c t = c.in_default.ensures.none (Some t)
