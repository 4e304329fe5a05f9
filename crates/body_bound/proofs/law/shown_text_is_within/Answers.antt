use Rattle.body_bound.proofs.ShownLemmas.{shows_within}
use Rattle.body_bound.proofs.law.shown_text_is_within.Goals as goal

pub returns : goal.returns
returns c = shows_within c.args.table.now c.requires
