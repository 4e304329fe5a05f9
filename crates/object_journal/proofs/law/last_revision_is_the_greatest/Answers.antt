use Rattle.object_journal.proofs.RuleLemmas.{last_greatest}
use Rattle.object_journal.proofs.law.last_revision_is_the_greatest.Goals as goal

pub returns : goal.returns
returns c = λ front last is. last_greatest c.args.base c.args.entries.now front last c.requires.lawful c.requires.above is
