use Rattle.body_bound.proofs.ShownLemmas.{body_within}
use Rattle.body_bound.proofs.law.shown_body_is_within.Goals as goal

pub returns : goal.returns
returns c = body_within c.args.table.now c.args.shown.now c.requires.lawful c.requires.shown_lawful c.requires.same
