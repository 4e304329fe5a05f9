use Rattle.body_bound.proofs.TextLemmas.{reads_within}
use Rattle.body_bound.proofs.law.texts_are_within.Goals as goal

pub returns : goal.returns
returns c = reads_within c.args.bytes.now
