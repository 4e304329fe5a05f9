use Rattle.std.proofs.Common.{◌∙◌, subst}
use Rattle.schemas.specs.Dated.{IsShaped}
use Rattle.body_bound.proofs.law.accepted_history_is_shaped.Goals as goal

pub returns : goal.returns
returns c = subst IsShaped (c.history.view_is ∙ c.history-history.ensures.same) c.history.invariant
