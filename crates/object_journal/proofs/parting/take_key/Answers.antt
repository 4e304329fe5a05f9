use Rattle.object_journal.proofs.PartLemmas.{no_end_of_key}
use Rattle.object_journal.proofs.parting.take_key.Goals as goal

pub returns-in_default-take_two-clause-none : goal.returns-in_default-take_two-clause-none
returns-in_default-take_two-clause-none c = no_end_of_key c.args.bytes.now _ _ _ c.in-Some.ensures.some c.in_default-take_two.ensures.none
